-- Numbers in hexadecimal digits.
use Rattle.std.specs.Prelude.{ℕ, zero, suc, ◌*◌, ◌/◌, ◌%◌, ◌^◌, List, [], ◌∷◌}
use Rattle.std.specs.Char.{digit_char}

-- the low `k` hexadecimal digits of a number, in lower case, the highest first
unfoldable pub hex_digits : ℕ → ℕ → List ℕ
hex_digits zero n = []
hex_digits (suc k) n = digit_char (n / 2 ^ (4 * k) % 16) ∷ hex_digits k n
