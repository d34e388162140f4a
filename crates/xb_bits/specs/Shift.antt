-- Shifts of `w` bits by any amount. From an amount of `w` on all bits are shifted out, so `min k w` tells no two amounts apart
-- that matter, and keeps the powers small.
use Rattle.std.specs.Prelude.{ℕ, ◌*◌, ◌/◌, ◌%◌, ◌^◌, min}
use Rattle.std.specs.Int.{int_shr}
use Rattle.xb_bits.specs.Sign.{signed_value, signed_bits}

abbrev pub shifted_left : ℕ → ℕ → ℕ → ℕ
shifted_left w a k = (a * 2 ^ min k w) % 2 ^ w

abbrev pub shifted_right : ℕ → ℕ → ℕ → ℕ
shifted_right w a k = a / 2 ^ min k w

-- the signed value over `2 ^ k`, rounded down: copies of the sign come in
abbrev pub shifted_signed : ℕ → ℕ → ℕ → ℕ
shifted_signed w a k = signed_bits w (int_shr (signed_value w a) (min k w))
