-- What it says that a value is of a type, type by type.
use Rattle.std.proofs.Common.{◌≡◌, ℕ, ◌<◌, ◌≤◌, ◌^◌, ◌==◌, nat_lt, nat_le, List, length, map, Bool, true, false, ◌&&◌, IsTrue, refl, sym, ap, ◌∙◌, arith}
use Rattle.std.specs.List.{list_all}
use Rattle.std.proofs.lemmas.Bool.Decides.{nat_tests}
use Rattle.xb_bits.specs.Word.{Word}
use Rattle.xb_value.specs.declared.ty.Ty.{Ty}
use Rattle.xb_value.specs.declared.ty.Ty as ty
use Rattle.xb_value.specs.declared.value.Value.{Value, Bits, Tuple, Array}
use Rattle.xb_value.specs.declared.value.Value.TheViews.{out-Value, outs-Bits, outs-Tuple, outs-Array}
use Rattle.xb_value.specs.Typing.{IsOfType, fits, fits_step, bits_fit, tuple_fits, array_fits, is_word_of, each_passes}
use Rattle.xb_value.proofs.Lemmas.Types as types
use Rattle.xb_value.proofs.Lemmas.Values.{value_cases}
use Rattle.xb_value.proofs.Widths.{both_true}

pub fits-Bits : (w : ℕ) (v : Value) → fits (ty.Bits w) v ≡ bits_fit w (out-Value v)
fits-Bits w v = ap (λ (p : Value → Bool). p v) (types.fold-Bits (Value → Bool) fits_step w)

pub fits-Tuple : (ts : List Ty) (v : Value) → fits (ty.Tuple ts) v ≡ tuple_fits (map fits ts) (out-Value v)
fits-Tuple ts v = ap (λ (p : Value → Bool). p v) (types.fold-Tuple (Value → Bool) fits_step ts)

pub fits-Array : (t : Ty) (n : ℕ) (v : Value) → fits (ty.Array t n) v ≡ array_fits (fits t) n (out-Value v)
fits-Array t n v = ap (λ (p : Value → Bool). p v) (types.fold-Array (Value → Bool) fits_step t n)

-- a value of `w` bits
pub record IsBitsOf (w : ℕ) (v : Value) : Type 0 where
  pub word : Word
  pub is : v ≡ Bits word
  pub width : word.width ≡ w
  pub some_width : 1 ≤ w
  pub most_width : w ≤ 128
  pub in_range : word.value < 2 ^ w

pub record IsTupleOf (ts : List Ty) (v : Value) : Type 0 where
  pub parts : List Value
  pub is : v ≡ Tuple parts
  pub each : IsTrue (each_passes (map fits ts) parts)

pub record IsArrayOf (t : Ty) (n : ℕ) (v : Value) : Type 0 where
  pub parts : List Value
  pub is : v ≡ Array parts
  pub count : length parts ≡ n
  pub all : IsTrue (list_all (fits t) parts)

word_facts : (w : ℕ) (x : Word) → IsTrue (is_word_of w x) → (x.width ≡ w) × (1 ≤ w) × (w ≤ 128) × (x.value < 2 ^ w)
word_facts w x h =
    let d = both_true (x.width == w && nat_le 1 w && nat_le w 128) (nat_lt x.value (2 ^ w)) h in
    let c = both_true (x.width == w && nat_le 1 w) (nat_le w 128) d.0 in
    let ab = both_true (x.width == w) (nat_le 1 w) c.0 in
    (grind (arith, nat_tests, ab.0), grind (arith, nat_tests, ab.1), grind (arith, nat_tests, c.1), grind (arith, nat_tests, d.1))

pub bits_of_type : (w : ℕ) (v : Value) → IsOfType (ty.Bits w) v → IsBitsOf w v
bits_of_type w = value_cases (λ v. IsOfType (ty.Bits w) v → IsBitsOf w v)
    (λ x h.
    let test : IsTrue (is_word_of w x) = sym (fits-Bits w (Bits x) ∙ ap (bits_fit w) (outs-Bits x)) ∙ h in
    let facts = word_facts w x test in
    record { word = x; is = refl; width = facts.0; some_width = facts.1; most_width = facts.2; in_range = facts.3 })
    (λ vs h. let never : false ≡ true = sym (fits-Bits w (Tuple vs) ∙ ap (bits_fit w) (outs-Tuple vs)) ∙ h in absurd (cc))
    (λ vs h. let never : false ≡ true = sym (fits-Bits w (Array vs) ∙ ap (bits_fit w) (outs-Array vs)) ∙ h in absurd (cc))

pub tuple_of_type : (ts : List Ty) (v : Value) → IsOfType (ty.Tuple ts) v → IsTupleOf ts v
tuple_of_type ts = value_cases (λ v. IsOfType (ty.Tuple ts) v → IsTupleOf ts v)
    (λ x h. let never : false ≡ true = sym (fits-Tuple ts (Bits x) ∙ ap (tuple_fits (map fits ts)) (outs-Bits x)) ∙ h in absurd (cc))
    (λ vs h. record { parts = vs; is = refl; each = sym (fits-Tuple ts (Tuple vs) ∙ ap (tuple_fits (map fits ts)) (outs-Tuple vs)) ∙ h })
    (λ vs h. let never : false ≡ true = sym (fits-Tuple ts (Array vs) ∙ ap (tuple_fits (map fits ts)) (outs-Array vs)) ∙ h in absurd (cc))

pub array_of_type : (t : Ty) (n : ℕ) (v : Value) → IsOfType (ty.Array t n) v → IsArrayOf t n v
array_of_type t n = value_cases (λ v. IsOfType (ty.Array t n) v → IsArrayOf t n v)
    (λ x h. let never : false ≡ true = sym (fits-Array t n (Bits x) ∙ ap (array_fits (fits t) n) (outs-Bits x)) ∙ h in absurd (cc))
    (λ vs h. let never : false ≡ true = sym (fits-Array t n (Tuple vs) ∙ ap (array_fits (fits t) n) (outs-Tuple vs)) ∙ h in absurd (cc))
    (λ vs h.
    let both = both_true (length vs == n) (list_all (fits t) vs) (sym (fits-Array t n (Array vs) ∙ ap (array_fits (fits t) n) (outs-Array vs)) ∙ h) in
    record { parts = vs; is = refl; count = grind (arith, nat_tests, both.0); all = both.1 })
