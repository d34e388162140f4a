-- Numbers by the positions of their bits.
use Rattle.std.specs.Prelude.{ℕ, zero, suc, ◌+◌, ◌*◌, ◌/◌, ◌^◌, if◌then◌else◌, ◌==◌}
use Rattle.std.specs.Int.{bit_at}

-- how many of the `w` bits stand above the highest 1: all of them in 0
unfoldable pub leading_zero_count : ℕ → ℕ → ℕ
leading_zero_count zero a = 0
leading_zero_count (suc w) a = if bit_at a w == 1 then 0 else (suc (leading_zero_count w a))

-- how many of the `w` bits stand below the lowest 1: all of them in 0
unfoldable pub trailing_zero_count : ℕ → ℕ → ℕ
trailing_zero_count zero a = 0
trailing_zero_count (suc w) a = if bit_at a 0 == 1 then 0 else (suc (trailing_zero_count w (a / 2)))

-- the `w` bits in the other order: the lowest is the highest
unfoldable pub reversed_bits : ℕ → ℕ → ℕ
reversed_bits zero a = 0
reversed_bits (suc w) a = bit_at a 0 * 2 ^ w + reversed_bits w (a / 2)
