-- One bit of all the bits of a number.
use Rattle.std.specs.Prelude.{ℕ, ◌-◌, ◌%◌, ◌^◌, if◌then◌else◌, ◌==◌, count_ones}

-- 1 where all `w` bits are 1
abbrev pub all_ones_bit : ℕ → ℕ → ℕ
all_ones_bit w a = if a == 2 ^ w - 1 then 1 else 0

-- 1 where some bit is 1
abbrev pub some_one_bit : ℕ → ℕ
some_one_bit a = if a == 0 then 0 else 1

-- 1 where the number of ones is odd
abbrev pub parity_bit : ℕ → ℕ
parity_bit a = count_ones a % 2
