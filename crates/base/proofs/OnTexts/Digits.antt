-- Hexadecimal digits, one at a time.
use Rattle.std.proofs.Common.{◌≡◌, ℕ, suc, ◌+◌, ◌-◌, ◌*◌, ◌/◌, ◌%◌, ◌^◌, ◌<◌, ◌≤◌, List, [], ◌∷◌, ◌++◌, take, length, get_or, append_assoc, append-nil, sym, ap, ap₂, ◌∙◌, arith}
use Rattle.std.specs.Char.{digit_char, digit_value}
use Rattle.std.specs.Str.Parse.{digits_value}
use Rattle.std.proofs.lemmas.Int.Digits.{digits_value_more}
use Rattle.std.proofs.lemmas.Str.Parse.{digits_value-take-le}
use Rattle.base.specs.Texts.Hexadecimal.{hex_digits}

pub hex_digits-more : (m i n : ℕ) → i < m → hex_digits (m - i) n ≡ digit_char (n / 2 ^ (4 * (m - 1 - i)) % 16) ∷ hex_digits (m - (i + 1)) n
unfolding hex_digits
hex_digits-more m i n h =
    let left : m - i ≡ suc (m - (i + 1)) = omega arith in
    let offset : m - (i + 1) ≡ m - 1 - i = omega arith in
    ap (λ k. hex_digits k n) left ∙ ap (λ k. digit_char (n / 2 ^ (4 * k) % 16) ∷ hex_digits (m - (i + 1)) n) offset

pub hex_digits-none : (m i n : ℕ) → m ≤ i → hex_digits (m - i) n ≡ []
unfolding hex_digits
hex_digits-none m i n h = let none : m - i ≡ 0 = omega arith in ap (λ k. hex_digits k n) none

-- one more digit behind those that are written
pub digits_more : (m i n : ℕ) (before after all : List ℕ) → i < m → before ++ hex_digits (m - i) n ≡ all
    → after ≡ before ++ digit_char (n / 2 ^ (4 * (m - 1 - i)) % 16) ∷ [] → after ++ hex_digits (m - (i + 1)) n ≡ all
digits_more m i n before after all h so_far is =
    ap (λ t. t ++ hex_digits (m - (i + 1)) n) is
    ∙ append_assoc before (digit_char (n / 2 ^ (4 * (m - 1 - i)) % 16) ∷ []) (hex_digits (m - (i + 1)) n)
    ∙ ap (λ t. before ++ t) (sym (hex_digits-more m i n h))
    ∙ so_far

pub digits_done : (m i n : ℕ) (before all : List ℕ) → m ≤ i → before ++ hex_digits (m - i) n ≡ all → before ≡ all
digits_done m i n before all h so_far = sym (append-nil before) ∙ ap (λ t. before ++ t) (sym (hex_digits-none m i n h)) ∙ so_far

-- ---- reading

-- one more digit
pub one_more_digit : (r : ℕ) (ds : List ℕ) (i value d : ℕ) → i < length ds → value ≡ digits_value r (take i ds) → d ≡ digit_value (get_or ds i 0)
    → value * r + d ≡ digits_value r (take (i + 1) ds)
one_more_digit r ds i value d within so_far digit = ap₂ (λ v x. v * r + x) so_far digit ∙ sym (digits_value_more r ds i within)

-- what a front of the digits passes, all of them pass
pub passed : (r : ℕ) (ds : List ℕ) (i most next : ℕ) → 1 ≤ r → next ≡ digits_value r (take i ds) → most ≤ next → most ≤ digits_value r ds
passed r ds i most next some is over = omega (arith, digits_value-take-le r ds i some)
