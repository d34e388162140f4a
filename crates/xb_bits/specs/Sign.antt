-- The signed value of `w` bits, and the bits of a signed value.
use Rattle.std.specs.Prelude.{ℕ, suc, ◌-◌, ◌^◌, ℤ, pos, negsuc, if◌then◌else◌, nat_lt}

-- `a`, or `a - 2 ^ w` where the highest of the `w` bits is 1
abbrev pub signed_value : ℕ → ℕ → ℤ
signed_value w a = if nat_lt a (2 ^ (w - 1)) then pos a else (negsuc (2 ^ w - suc a))

-- the `w` bits of a value from -2 ^ w to 2 ^ w - 1: the value itself, or `2 ^ w` more where it is below 0. This is no
-- remainder: a value of `2 ^ w` or more stays as it is, and one below -2 ^ w gives 0
abbrev pub signed_bits : ℕ → ℤ → ℕ
signed_bits w (pos n) = n
signed_bits w (negsuc n) = 2 ^ w - suc n
