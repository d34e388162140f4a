-- Numbers in the ranges of bits.
use Rattle.std.proofs.Common.{◌≡◌, ℕ, zero, suc, ◌+◌, ◌-◌, ◌%◌, ◌^◌, ◌<◌, ◌≤◌, nat_lt, Bool, true, false, Some, None, if◌then◌else◌, refl, ap, sym, ◌∙◌, arith}
use Rattle.std.proofs.lemmas.Bool.{ltb-true}
use Rattle.std.proofs.lemmas.Nat.{pow-add, pow_pos}
use Rattle.std.proofs.Math.Nat.{mod_self, mod-eq_of_lt}
use Rattle.std.proofs.Math.Pow.{pow_mono}
use Rattle.xb_bits.specs.Word.{word}
use Rattle.xb_bits.specs.Operations.{neg}
use Rattle.dslx_meaning.specs.Operators.{positive_word, negative_word}
use Rattle.dslx_values.specs.Operators.Inner.Ranges.{digits_of, is_small_below}

-- a number from 0 on lies in the range of bits where it has at most as many digits as these leave to it
pub positive_by_digits : (s : Bool) (w n : ℕ) → positive_word s w n ≡ (if nat_lt n (2 ^ digits_of s w) then Some (word w n) else None)
positive_by_digits true w n = refl
positive_by_digits false w n = refl

pub digits_within : (s : Bool) (w : ℕ) → digits_of s w ≤ w
digits_within true w = omega arith
digits_within false w = omega arith

pub fits_by_digits : (s : Bool) (w n : ℕ) → nat_lt n (2 ^ digits_of s w) ≡ true → n < 2 ^ w
fits_by_digits s w n e =
    let below : n < 2 ^ digits_of s w = ltb-true n (2 ^ digits_of s w) e in
    let more : 2 ^ digits_of s w ≤ 2 ^ w = pow_mono (digits_within s w) in
    omega arith

-- twice a power is the next one
pub double_power : (w : ℕ) → 1 ≤ w → 2 ^ w ≡ 2 ^ (w - 1) + 2 ^ (w - 1)
double_power w some =
    let parts : (w - 1) + 1 ≡ w = omega arith in
    ap (λ k. 2 ^ k) (sym parts) ∙ pow-add 2 (w - 1) 1 ∙ omega arith

-- a number that another one makes 0 with
pub complement_small : (w n : ℕ) → n < 2 ^ (w - 1) → 2 ^ w - suc n ≡ (2 ^ w - suc n) % 2 ^ w
complement_small w n h =
    let positive : 0 < 2 ^ w = pow_pos w in
    let below : 2 ^ w - suc n < 2 ^ w = omega arith in
    sym (mod-eq_of_lt below)

pub negative_by_smallness : (s : Bool) (w n : ℕ) → negative_word s w n ≡ (if is_small_below s w n then Some (neg (word w n)) else None)
negative_by_smallness s w zero =
    let whole : 2 ^ w - 0 ≡ 2 ^ w = omega arith in
    ap (λ k. Some (word w k)) (sym (ap (λ n. n % 2 ^ w) whole ∙ mod_self (2 ^ w)))
negative_by_smallness false w (suc n) = refl
negative_by_smallness true w (suc n) = by_test (nat_lt n (2 ^ (w - 1))) refl
  where
    by_test : (t : Bool) → nat_lt n (2 ^ (w - 1)) ≡ t → (if t then Some (word w (2 ^ w - suc n)) else None) ≡ (if t then Some (neg (word w (suc n))) else None)
    by_test true e = ap (λ k. Some (word w k)) (complement_small w n (ltb-true n (2 ^ (w - 1)) e))
    by_test false e = refl

pub fits_by_smallness : (s : Bool) (w n : ℕ) → 1 ≤ w → is_small_below s w n ≡ true → n < 2 ^ w
fits_by_smallness s w zero some e = pow_pos w
fits_by_smallness true w (suc n) some e =
    let below : n < 2 ^ (w - 1) = ltb-true n (2 ^ (w - 1)) e in
    let twice : 2 ^ w ≡ 2 ^ (w - 1) + 2 ^ (w - 1) = double_power w some in
    omega arith
fits_by_smallness false w (suc n) some e = cc

-- no number of 128 digits has more of them than there are
pub below_large_power : (n k : ℕ) → n < 2 ^ 128 → 128 ≤ k → n < 2 ^ k
below_large_power n k h more =
    let larger : 2 ^ 128 ≤ 2 ^ k = pow_mono more in
    omega arith
