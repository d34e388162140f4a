-- Numbers of any length against powers of two.
use Rattle.std.proofs.Common.{◌≡◌, ◌≢◌, ℕ, zero, suc, ◌+◌, ◌-◌, ◌*◌, ◌/◌, ◌%◌, ◌^◌, ◌<◌, ◌≤◌, Bool, true, false, nat_lt, List, [], ◌∷◌, ◌++◌, take, length, get_or, refl, sym, ap, ◌∙◌, subst, inl, inr, arith}
use Rattle.std.specs.Str.Parse.{digits_value, AllDigits}
use Rattle.std.specs.Char.{digit_value}
use Rattle.std.proofs.lemmas.Bool.Decides.{nat_tests}
use Rattle.std.proofs.lemmas.Int.Digits.{digits_value-lt, digits_value_push, digits_value_more, digits_push}
use Rattle.std.proofs.lemmas.Nat.{pow_pos, pow-add}
use Rattle.std.proofs.Math.Nat.{div-lt_iff_lt-mul, mod-eq-sub-div-mul, div-mul-le_self, div-eq_of_lt-le, mod-lt}
use Rattle.std.proofs.lemmas.Bool.{cases_Bool, ltb-true}
use Rattle.std.proofs.lemmas.List.{take_all}
use Rattle.std.proofs.Math.Pow.{pow_mono}

pub less : (a b : ℕ) → a < b → true ≡ nat_lt a b
less a b h = grind (arith, nat_tests)

pub not_less : (a b : ℕ) → b ≤ a → false ≡ nat_lt a b
not_less a b h = grind (arith, nat_tests)

pub not_below : (v k : ℕ) → 2 ^ 128 ≤ v → k ≤ 128 → false ≡ nat_lt v (2 ^ k)
not_below v k h le = not_less v (2 ^ k) (omega (arith, pow_mono {i = k} {j = 128} le))

four_bits : (n : ℕ) → 10 ^ n ≤ 2 ^ (4 * n)
four_bits zero = omega arith
four_bits (suc n) =
    let more : 2 ^ (4 * suc n) ≡ 2 ^ (4 * n) * 16 = ap (λ k. 2 ^ k) (omega arith) ∙ pow-add 2 (4 * n) 4 in
    let here : 10 ^ suc n ≡ 10 ^ n * 10 = ap (λ k. 10 ^ k) (omega arith) ∙ pow-add 10 n 1 in
    omega (arith, more, here, four_bits n)

pub below : (ds : List ℕ) (w : ℕ) → AllDigits 10 ds → 4 * length ds ≤ w → true ≡ nat_lt (digits_value 10 ds) (2 ^ w)
below ds w all wide = less _ _ (omega (arith, digits_value-lt 10 ds all, four_bits (length ds), pow_mono {i = 4 * length ds} {j = w} wide))

pub digit_at : (ds : List ℕ) (i : ℕ) → AllDigits 10 ds → i < length ds → digit_value (get_or ds i 0) < 10
digit_at [] i all h = omega arith
digit_at (d ∷ ds) zero all h = all.0
digit_at (d ∷ ds) (suc i) all h = digit_at ds i all.1 (omega arith)

digit_char : (q : ℕ) → q < 10 → digit_value (48 + q) ≡ q
digit_char q h = grind (arith, nat_tests)

-- digits that are the quotient of the first i digits, with this rest
pub record AreDivided (ds : List ℕ) (two : ℕ) (i : ℕ) (quotient : List ℕ) (rest : ℕ) : Type 0 where
  pub digits : AllDigits 10 quotient
  pub value : digits_value 10 quotient * two + rest ≡ digits_value 10 (take i ds)
  pub small : rest < two

pub part_fits : (two rest d : ℕ) → rest < two → d < 10 → 10 * rest + d < two * 10
part_fits two rest d r h = omega arith

pub quotient_small : (two part : ℕ) → 0 < two → part < two * 10 → part / two < 10
quotient_small two part some h = (div-lt_iff_lt-mul {k = two} {x = part} {y = 10} some).1 (omega arith)

divides : (two part : ℕ) → part / two * two + part % two ≡ part
divides two part = omega (arith, mod-eq-sub-div-mul part two, div-mul-le_self part two)

values : (v two rest d q r before : ℕ) → v * two + rest ≡ before → q * two + r ≡ 10 * rest + d → (v * 10 + q) * two + r ≡ before * 10 + d
values v two rest d q r before h e = omega (arith, h, e)

pub one_more : (ds quotient : List ℕ) (two i rest d : ℕ) → 0 < two → AllDigits 10 ds → i < length ds → d ≡ digit_value (get_or ds i 0) → AreDivided ds two i quotient rest
    → AreDivided ds two (i + 1) (quotient ++ (48 + (10 * rest + d) / two) ∷ []) ((10 * rest + d) % two)
one_more ds quotient two i rest d some all h e so_far =
    let small : d < 10 = subst (λ x. x < 10) (sym e) (digit_at ds i all h) in
    let q = quotient_small two (10 * rest + d) some (part_fits two rest d so_far.small small) in
    let digit = digit_char ((10 * rest + d) / two) q in
    record {
      digits = digits_push 10 quotient (48 + (10 * rest + d) / two) so_far.digits (subst (λ x. x < 10) (sym digit) q);
      value =
          ap (λ v. v * two + (10 * rest + d) % two) (digits_value_push 10 quotient (48 + (10 * rest + d) / two) ∙ ap (λ x. digits_value 10 quotient * 10 + x) digit)
          ∙ values (digits_value 10 quotient) two rest d ((10 * rest + d) / two) ((10 * rest + d) % two) (digits_value 10 (take i ds)) so_far.value (divides two (10 * rest + d))
          ∙ ap (λ x. digits_value 10 (take i ds) * 10 + x) e
          ∙ sym (digits_value_more 10 ds i h);
      small = mod-lt (10 * rest + d) some;
    }

-- all digits are divided
pub all_divided : (ds quotient : List ℕ) (two i rest : ℕ) → 0 < two → length ds ≤ i → AreDivided ds two i quotient rest → digits_value 10 quotient ≡ digits_value 10 ds / two
all_divided ds quotient two i rest some past so_far =
    let whole : digits_value 10 quotient * two + rest ≡ digits_value 10 ds = so_far.value ∙ ap (digits_value 10) (take_all i ds past) in
    let low : digits_value 10 quotient * two ≤ digits_value 10 ds = omega (arith, whole) in
    let high : digits_value 10 ds < (digits_value 10 quotient + 1) * two = omega (arith, whole, so_far.small) in
    sym (div-eq_of_lt-le {k = digits_value 10 quotient} two {m = digits_value 10 ds} low high)

iff_same : (a b c d : ℕ) → (a < b → c < d) → (c < d → a < b) → nat_lt a b ≡ nat_lt c d
iff_same a b c d f g = elim (cases_Bool (nat_lt a b)) [
  | inl below ↦ below ∙ less c d (f (ltb-true a b below))
  | inr past ↦ elim (cases_Bool (nat_lt c d)) [
    | inl also ↦ sym (less a b (g (ltb-true c d also))) ∙ sym also
    | inr nor ↦ past ∙ sym nor
  ]
]

pub part_below : (a b k : ℕ) → k ≤ b → nat_lt (a / 2 ^ k) (2 ^ (b - k)) ≡ nat_lt a (2 ^ b)
part_below a b k h =
    let whole : 2 ^ (b - k) * 2 ^ k ≡ 2 ^ b = sym (pow-add 2 (b - k) k) ∙ ap (λ n. 2 ^ n) (omega arith) in
    let both = div-lt_iff_lt-mul {k = 2 ^ k} {x = a} {y = 2 ^ (b - k)} (pow_pos k) in
    iff_same (a / 2 ^ k) (2 ^ (b - k)) a (2 ^ b) (λ l. subst (λ n. a < n) whole (both.0 l)) (λ l. both.1 (subst (λ n. a < n) (sym whole) l))

pub left_same : (v w a b k n : ℕ) → k ≤ b → n ≡ a / 2 ^ k → nat_lt a (2 ^ b) ≡ nat_lt v (2 ^ w) → nat_lt n (2 ^ (b - k)) ≡ nat_lt v (2 ^ w)
left_same v w a b k n h e same = ap (λ x. nat_lt x (2 ^ (b - k))) e ∙ part_below a b k h ∙ same
