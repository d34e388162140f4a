-- How many turns there are between two words of one type.
use Rattle.std.proofs.Common.{◌≡◌, ℕ, zero, suc, ◌+◌, ◌-◌, ◌^◌, ◌<◌, ◌≤◌, nat_lt, Bool, true, false, if◌then◌else◌, refl, subst, ◌∙◌, arith}
use Rattle.std.specs.Prelude.{ℤ, pos, negsuc, ◌-ℤ◌, ◌+ℤ◌}
use Rattle.std.proofs.lemmas.Bool.{ltb-true, ltb-false}
use Rattle.xb_bits.specs.Word.{word, IsWord}
use Rattle.dslx_meaning.specs.Meaning.{turn_count}
use Rattle.dslx_meaning.specs.declared.value.SignedWord.{SignedWord}
use Rattle.dslx_values.specs.Operators.Inner.Ranges.{rank_in, rank_of}
use Rattle.dslx_values.proofs.OnOperators.RangeLemmas.{double_power}

abbrev rising : ℤ → ℕ
rising (pos n) = n
rising (negsuc n) = 0

rising_below : (m n : ℕ) → rising (pos m +ℤ negsuc n) ≡ m - suc n
rising_below m n = by_order (nat_lt m (suc n)) refl
  where
    by_order : (t : Bool) → nat_lt m (suc n) ≡ t → rising (if t then negsuc (suc n - suc m) else pos (m - suc n)) ≡ m - suc n
    by_order true e = let below : m < suc n = ltb-true m (suc n) e in omega arith
    by_order false e = refl

rising_between : (m n : ℕ) → rising (pos m -ℤ pos n) ≡ m - n
rising_between m zero = omega arith
rising_between m (suc n) = rising_below m n

-- the signed values of two words, by the halves of the range in which they stand
rising_signed : (h a b : ℕ) (w : ℕ) → 2 ^ w ≡ h + h → a < 2 ^ w → b < 2 ^ w → (p q : Bool) → nat_lt a h ≡ p → nat_lt b h ≡ q →
    rising ((if q then pos b else (negsuc (2 ^ w - suc b))) -ℤ (if p then pos a else (negsuc (2 ^ w - suc a))))
    ≡ (if q then b + h else (b - h)) - (if p then a + h else (a - h))
rising_signed h a b w e la lb true true pa pb =
    let same : b - a ≡ (b + h) - (a + h) = omega arith in
    rising_between b a ∙ same
rising_signed h a b w e la lb false true pa pb =
    let high : h ≤ a = ltb-false a h pa in
    let same : b + suc (2 ^ w - suc a) ≡ (b + h) - (a - h) = omega arith in
    same
rising_signed h zero b w e la lb true false pa pb =
    let high : h ≤ b = ltb-false b h pb in
    let same : 0 - suc (2 ^ w - suc b) ≡ (b - h) - (0 + h) = omega arith in
    rising_below 0 (2 ^ w - suc b) ∙ same
rising_signed h (suc a) b w e la lb true false pa pb =
    let high : h ≤ b = ltb-false b h pb in
    let same : 0 ≡ (b - h) - (suc a + h) = omega arith in
    same
rising_signed h a b w e la lb false false pa pb =
    let high : h ≤ a = ltb-false a h pa in
    let high_too : h ≤ b = ltb-false b h pb in
    let same : suc (2 ^ w - suc a) - suc (2 ^ w - suc b) ≡ (b - h) - (a - h) = omega arith in
    rising_below (suc (2 ^ w - suc a)) (2 ^ w - suc b) ∙ same

turns_in : (s : Bool) (w a b : ℕ) → IsWord (word w a) → IsWord (word w b) →
    turn_count (record { signed = s; word = word w a }) (record { signed = s; word = word w b }) ≡ rank_in s (2 ^ (w - 1)) b - rank_in s (2 ^ (w - 1)) a
turns_in false w a b wa wb = rising_between b a
turns_in true w a b wa wb = rising_signed (2 ^ (w - 1)) a b w (double_power w wa.some_width) wa.in_range wb.in_range (nat_lt a (2 ^ (w - 1))) (nat_lt b (2 ^ (w - 1))) refl refl

-- the difference of the places
pub turns_by_ranks : (x y : SignedWord) → x.signed ≡ y.signed → x.word.width ≡ y.word.width → IsWord x.word → IsWord y.word → turn_count x y ≡ rank_of y - rank_of x
turns_by_ranks x y signs widths wx wy =
    let P : Bool → Type 0 = λ s. (turn_count x (record { signed = s; word = y.word }) ≡ rank_of (record { signed = s; word = y.word }) - rank_of x) in
    let Q : ℕ → Type 0 = λ w. (IsWord (word w y.word.value) →
    (turn_count x (record { signed = x.signed; word = word w y.word.value }) ≡ rank_of (record { signed = x.signed; word = word w y.word.value }) - rank_of x)) in
    subst P signs (subst Q widths (turns_in x.signed x.word.width x.word.value y.word.value wx) wy)
