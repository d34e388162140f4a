-- Sums, products, quotients and complements of numbers of `w` bits: whole numbers, modulo `2 ^ w`.
use Rattle.std.specs.Prelude.{ℕ, ◌+◌, ◌-◌, ◌*◌, ◌/◌, ◌%◌, ◌^◌, if◌then◌else◌, ◌==◌}

abbrev pub sum_bits : ℕ → ℕ → ℕ → ℕ
sum_bits w a b = (a + b) % 2 ^ w

abbrev pub difference_bits : ℕ → ℕ → ℕ → ℕ
difference_bits w a b = (a + (2 ^ w - b)) % 2 ^ w

abbrev pub product_bits : ℕ → ℕ → ℕ → ℕ
product_bits w a b = (a * b) % 2 ^ w

-- a quotient by 0 is all ones
abbrev pub quotient_bits : ℕ → ℕ → ℕ → ℕ
quotient_bits w a b = if b == 0 then 2 ^ w - 1 else (a / b)

-- a remainder by 0 is 0
abbrev pub remainder_bits : ℕ → ℕ → ℕ
remainder_bits a b = if b == 0 then 0 else (a % b)

-- the number that makes 0 with `a`
abbrev pub negative_bits : ℕ → ℕ → ℕ
negative_bits w a = (2 ^ w - a) % 2 ^ w

-- each bit flipped: the number that makes all ones with `a`
abbrev pub complement_bits : ℕ → ℕ → ℕ
complement_bits w a = 2 ^ w - 1 - a
