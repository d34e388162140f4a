-- How many turns a loop has.
use Rattle.std.proofs.Common.{◌≡◌, ℕ, zero, suc, ◌+◌, ◌-◌, ◌^◌, ◌<◌, ◌≤◌, min, nat_lt, Bool, true, false, if◌then◌else◌, Option, Some, refl, ap, sym, ◌∙◌, arith}
use Rattle.std.specs.Prelude.{ℤ, pos, negsuc, ◌-ℤ◌, ◌+ℤ◌}
use Rattle.std.proofs.lemmas.Bool.{ltb-true, ltb-false, le-ltb}
use Rattle.xb_bits.specs.Operations as op
use Rattle.xb_bits.specs.Word.{Word}
use Rattle.dslx_meaning.specs.Meaning.{turn_count}
use Rattle.dslx_meaning.specs.Operators.{whole_number}
use Rattle.dslx_meaning.specs.declared.value.SignedWord.{SignedWord}
use Rattle.dslx_meaning.specs.Lists.{where_true}
use Rattle.dslx_core_exprs.specs.Calls.Inner.Turns.{few, few_turns, integer_of, turns_between}
use Rattle.dslx_core_exprs.specs.declared.calls.turns.Whole.{Whole}

abbrev rising : ℤ → ℕ
rising (pos n) = n
rising (negsuc n) = 0

rising_below : (m n : ℕ) → rising (pos m +ℤ negsuc n) ≡ m - suc n
rising_below m n = by_order (nat_lt m (suc n)) refl
  where
    by_order : (t : Bool) → nat_lt m (suc n) ≡ t → rising (if t then negsuc (suc n - suc m) else pos (m - suc n)) ≡ m - suc n
    by_order true e = let below : m < suc n = ltb-true m (suc n) e in omega arith
    by_order false e = refl

rising_is : (a b : ℤ) → rising (b -ℤ a) ≡ turns_between a b
rising_is (pos zero) (pos n) = omega arith
rising_is (pos (suc m)) (pos n) = rising_below n m
rising_is (pos zero) (negsuc n) = rising_below zero n ∙ omega arith
rising_is (pos (suc m)) (negsuc n) = refl
rising_is (negsuc m) (pos n) = omega arith
rising_is (negsuc m) (negsuc n) = rising_below (suc m) n ∙ omega arith

count_is : (x y : SignedWord) → turn_count x y ≡ turns_between (whole_number x) (whole_number y)
count_is x y = rising_is (whole_number x) (whole_number y)

pub turns_are : (x y : SignedWord) (a b : Whole) (o : Option ℕ) → integer_of a ≡ whole_number x → integer_of b ≡ whole_number y → o ≡ few (turns_between (integer_of a) (integer_of b)) → o ≡ few_turns x y
turns_are x y a b o ea eb eo = eo ∙ ap (λ z. few (turns_between z (integer_of b))) ea ∙ ap (λ z. few (turns_between (whole_number x) z)) eb ∙ ap few (sym (count_is x y))

few_of_sum : (m n : ℕ) → n ≡ min (min m (2 ^ 128 - 1) + 1) (2 ^ 128 - 1) → few n ≡ few (suc m)
few_of_sum m n h = by (nat_lt (suc m) (2 ^ 64)) refl
  where
    by : (b : Bool) → nat_lt (suc m) (2 ^ 64) ≡ b → few n ≡ where_true b (Some (suc m))
    by true e = let low : suc m < 2 ^ 64 = ltb-true (suc m) (2 ^ 64) e in let same : n ≡ suc m = omega arith in ap few same ∙ ap (λ b. where_true b (Some (suc m))) e
    by false e =
        let high : 2 ^ 64 ≤ suc m = ltb-false (suc m) (2 ^ 64) e in
        let still : 2 ^ 64 ≤ n = omega arith in
        ap (λ b. where_true b (Some n)) (le-ltb n (2 ^ 64) still)

-- sums that are cut off at the largest number are past 2^64 still
pub sum_is : (a b m n : ℕ) (o : Option ℕ) → m ≡ min (a + b) (2 ^ 128 - 1) → n ≡ min (m + 1) (2 ^ 128 - 1) → o ≡ few n → o ≡ few (suc (a + b))
sum_is a b m n o em en eo = eo ∙ few_of_sum (a + b) n (en ∙ ap (λ k. min (k + 1) (2 ^ 128 - 1)) em)

pub complement_is : (x y : Word) (n : ℕ) → y ≡ op.not x → n ≡ y.value → n ≡ 2 ^ x.width - suc x.value
complement_is x y n ey en = let same : 2 ^ x.width - 1 - x.value ≡ 2 ^ x.width - suc x.value = omega arith in en ∙ ap (λ (w : Word). w.value) ey ∙ same
