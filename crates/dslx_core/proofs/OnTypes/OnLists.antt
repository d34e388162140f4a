-- Lists of values of types.
use Rattle.std.proofs.Common.{◌≡◌, ◌==◌, ℕ, zero, suc, ◌<◌, ◌≤◌, min, Bool, true, false, List, ◌∷◌, ◌++◌, map, length, Some, refl, ap, subst, ◌∙◌, arith, if◌then◌else◌, []}
use Rattle.std.specs.Prelude.{slice_get, nat_lt, set, pred}
use Rattle.std.specs.List.{list_all}
use Rattle.std.proofs.lemmas.Bool.Decides.{nat_tests}
use Rattle.std.proofs.lemmas.List.{length-set}
use Rattle.xb_value.specs.declared.ty.Ty.{Ty, Tuple, Array}
use Rattle.xb_value.specs.declared.value.Value.{Value}
use Rattle.xb_value.specs.declared.value.Value as value
use Rattle.xb_value.specs.declared.value.Value.TheViews.{outs-Tuple, outs-Array}
use Rattle.xb_value.specs.Typing.{IsOfType, fits, each_passes, tuple_fits, array_fits}
use Rattle.xb_value.proofs.Lemmas.Typing.{fits-Tuple, fits-Array}
use Rattle.dslx_core.specs.Types.Sound.{AreOfTypes, HasValueOf}
use Rattle.dslx_core.proofs.OnTypes.OnOptions.{both, and_both}

-- ---- tuples

pub typed_tuple : (ts : List Ty) (vs : List Value) → AreOfTypes ts vs → IsOfType (Tuple ts) (value.Tuple vs)
typed_tuple ts vs h = fits-Tuple ts (value.Tuple vs) ∙ (ap (tuple_fits (map fits ts)) (outs-Tuple vs) ∙ h)

pub first_typed : (t : Ty) (ts : List Ty) (v : Value) (vs : List Value) → AreOfTypes (t ∷ ts) (v ∷ vs) → IsOfType t v × AreOfTypes ts vs
first_typed t ts v vs h = both (fits t v) (each_passes (map fits ts) vs) h

pub more_typed : (t : Ty) (ts : List Ty) (v : Value) (vs : List Value) → IsOfType t v → AreOfTypes ts vs → AreOfTypes (t ∷ ts) (v ∷ vs)
more_typed t ts v vs h k = and_both (fits t v) (each_passes (map fits ts) vs) h k

-- one more at the end
pub last_typed : (ts : List Ty) (vs : List Value) (t : Ty) (v : Value) → AreOfTypes ts vs → IsOfType t v → AreOfTypes (ts ++ t ∷ []) (vs ++ v ∷ [])
last_typed [] [] t v h k = more_typed t [] v [] k refl
last_typed [] (w ∷ vs) t v h k = absurd (cc)
last_typed (s ∷ ts) [] t v h k = absurd (cc)
last_typed (s ∷ ts) (w ∷ vs) t v h k =
    let parts = first_typed s ts w vs h in
    more_typed s (ts ++ t ∷ []) w (vs ++ v ∷ []) parts.0 (last_typed ts vs t v parts.1 k)

pub part_typed : (ts : List Ty) (vs : List Value) (k : ℕ) (t : Ty) → AreOfTypes ts vs → slice_get ts k ≡ Some t → HasValueOf (slice_get vs k) t
part_typed [] [] k t h e = absurd (cc)
part_typed [] (v ∷ vs) k t h e = absurd (cc)
part_typed (s ∷ ts) [] k t h e = absurd (cc)
part_typed (s ∷ ts) (v ∷ vs) zero t h e = let same : s ≡ t = cc in record { value = v; is = refl; typed = subst (λ u. IsOfType u v) same (first_typed s ts v vs h).0 }
part_typed (s ∷ ts) (v ∷ vs) (suc k) t h e = part_typed ts vs k t (first_typed s ts v vs h).1 e

-- ---- arrays

pub typed_array : (t : Ty) (n : ℕ) (vs : List Value) → length vs ≡ n → list_all (fits t) vs ≡ true → IsOfType (Array t n) (value.Array vs)
typed_array t n vs e h =
    let same : (length vs == n) ≡ true = grind (arith, nat_tests, e) in
    fits-Array t n (value.Array vs) ∙ (ap (array_fits (fits t) n) (outs-Array vs) ∙ and_both (length vs == n) (list_all (fits t) vs) same h)

pub element_typed : (t : Ty) (vs : List Value) (k : ℕ) → list_all (fits t) vs ≡ true → k < length vs → HasValueOf (slice_get vs k) t
element_typed t [] k h less = absurd (omega (arith, less))
element_typed t (v ∷ vs) zero h less = record { value = v; is = refl; typed = (both (fits t v) (list_all (fits t) vs) h).0 }
element_typed t (v ∷ vs) (suc k) h less = element_typed t vs k (both (fits t v) (list_all (fits t) vs) h).1 (omega (arith, less))

pub set_typed : (t : Ty) (vs : List Value) (k : ℕ) (w : Value) → list_all (fits t) vs ≡ true → IsOfType t w → list_all (fits t) (set vs k w) ≡ true
set_typed t [] k w h e = refl
set_typed t (v ∷ vs) zero w h e = and_both (fits t w) (list_all (fits t) vs) e (both (fits t v) (list_all (fits t) vs) h).1
set_typed t (v ∷ vs) (suc k) w h e =
    let parts = both (fits t v) (list_all (fits t) vs) h in
    and_both (fits t v) (list_all (fits t) (set vs k w)) parts.0 (set_typed t vs k w parts.1 e)

pub updated_typed : (t : Ty) (n : ℕ) (vs : List Value) (k : ℕ) (w : Value) → length vs ≡ n → list_all (fits t) vs ≡ true → IsOfType t w → IsOfType (Array t n) (value.Array (if nat_lt k (length vs) then set vs k w else vs))
updated_typed t n vs k w e h o = by (nat_lt k (length vs))
  where
    by : (b : Bool) → IsOfType (Array t n) (value.Array (if b then set vs k w else vs))
    by true = typed_array t n (set vs k w) (length-set vs k w ∙ e) (set_typed t vs k w h o)
    by false = typed_array t n vs e h

pub within : (n k : ℕ) → 1 ≤ n → min k (pred n) < n
within zero k h = absurd (omega (arith, h))
within (suc n) k h = at_most n k
  where
    at_most : (n k : ℕ) → min k n < suc n
    at_most n k = omega arith
