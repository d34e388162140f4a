-- Hexadecimal digits: how many, that they are digits, and that they give their number back.
use Rattle.std.proofs.Common.{◌≡◌, ℕ, zero, suc, ◌+◌, ◌*◌, ◌/◌, ◌%◌, ◌^◌, ◌<◌, ◌≤◌, length, IsTrue, refl, ap, ◌∙◌, arith}
use Rattle.std.specs.List.{list_all}
use Rattle.std.specs.Char.{digit_char, is_ascii_hexdigit}
use Rattle.std.specs.Str.Parse.{digits_value, digits_value_after}
use Rattle.std.proofs.lemmas.Bool.Decides.{nat_tests}
use Rattle.std.proofs.lemmas.Nat.{mod-pow-add, pow-add, mod_low}
use Rattle.std.proofs.lemmas.Str.{digit_value-digit_char}
use Rattle.std.proofs.Math.Pow.{pow_mono}
use Rattle.base.specs.Texts.Hexadecimal.{hex_digits}

pub is_hexdigit-digit_char : (d : ℕ) → d < 16 → IsTrue (is_ascii_hexdigit (digit_char d))
is_hexdigit-digit_char d h = grind (arith, nat_tests)

digit_below : (n k : ℕ) → n / 2 ^ k % 16 < 16
digit_below n k = omega arith

pub hex_digits-all : (k n : ℕ) → IsTrue (list_all is_ascii_hexdigit (hex_digits k n))
unfolding hex_digits
hex_digits-all zero n = refl
hex_digits-all (suc k) n =
    let one = is_hexdigit-digit_char (n / 2 ^ (4 * k) % 16) (digit_below n (4 * k)) in
    rw one (hex_digits-all k n)

pub length-hex_digits : (k n : ℕ) → length (hex_digits k n) ≡ k
unfolding hex_digits
length-hex_digits zero n = refl
length-hex_digits (suc k) n = ap suc (length-hex_digits k n)

-- one digit above the others
digit_step : (k v n : ℕ) → (v * 16 + n / 2 ^ (4 * k) % 16) * 2 ^ (4 * k) + n % 2 ^ (4 * k) ≡ v * 2 ^ (4 * suc k) + n % 2 ^ (4 * suc k)
digit_step k v n =
    let offset : 4 * suc k ≡ 4 + 4 * k = omega arith in
    let high : 2 ^ (4 + 4 * k) ≡ 16 * 2 ^ (4 * k) = pow-add 2 4 (4 * k) in
    let low : n % 2 ^ (4 + 4 * k) ≡ (n / 2 ^ (4 * k) % 16) * 2 ^ (4 * k) + n % 2 ^ (4 * k) = mod-pow-add n 4 (4 * k) in
    rw offset (rw (low, high) (omega arith))

-- the number that goes on with these digits
pub digits_value_after-hex_digits : (k v n : ℕ) → digits_value_after 16 v (hex_digits k n) ≡ v * 2 ^ (4 * k) + n % 2 ^ (4 * k)
unfolding hex_digits
digits_value_after-hex_digits zero v n = omega arith
digits_value_after-hex_digits (suc k) v n =
    let d = n / 2 ^ (4 * k) % 16 in
    ap (λ x. digits_value_after 16 (v * 16 + x) (hex_digits k n)) (digit_value-digit_char d (omega arith)) ∙ digits_value_after-hex_digits k (v * 16 + d) n ∙ digit_step k v n

-- digits enough for the number give it back
pub digits_value-hex_digits : (k n : ℕ) → n < 2 ^ (4 * k) → digits_value 16 (hex_digits k n) ≡ n
digits_value-hex_digits k n below =
    let alone : 0 * 2 ^ (4 * k) + n % 2 ^ (4 * k) ≡ n % 2 ^ (4 * k) = omega arith in
    let whole : n ≡ 0 * 2 ^ (4 * k) + n = omega arith in
    digits_value_after-hex_digits k 0 n ∙ alone ∙ ap (λ m. m % 2 ^ (4 * k)) whole ∙ mod_low 0 (4 * k) n below

-- as many digits as a width needs
pub digits_value-of_width : (w n : ℕ) → n < 2 ^ w → digits_value 16 (hex_digits ((w + 3) / 4) n) ≡ n
digits_value-of_width w n h =
    let room : w ≤ 4 * ((w + 3) / 4) = omega arith in
    let longer : 2 ^ w ≤ 2 ^ (4 * ((w + 3) / 4)) = pow_mono room in
    digits_value-hex_digits ((w + 3) / 4) n (omega arith)
