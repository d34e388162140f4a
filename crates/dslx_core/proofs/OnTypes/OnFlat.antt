-- A value comes back from its flat number, so arms that fit what each number holds fit each value.
use Rattle.std.proofs.Common.{◌≡◌, ℕ, zero, suc, ◌+◌, ◌*◌, ◌/◌, ◌%◌, ◌^◌, ◌<◌, ◌≤◌, Bool, true, false, List, [], ◌∷◌, map, length, IsTrue, refl, sym, ap, ap₂, subst, ◌∙◌, arith}
use Rattle.std.specs.Prelude.{nat_le, ◌&&◌, ◌==◌}
use Rattle.std.proofs.lemmas.Bool.Decides.{nat_tests}
use Rattle.std.specs.List.{list_all}
use Rattle.std.proofs.lemmas.Nat.{mod_low, pow-add, shr_high}
use Rattle.xb_bits.specs.Word.{Word, word}
use Rattle.xb_value.specs.declared.ty.Ty.{Ty}
use Rattle.xb_value.specs.declared.ty.Ty as ty
use Rattle.xb_value.specs.declared.value.Value.{Value, Bits, Tuple, Array}
use Rattle.xb_value.specs.Flat.{flat_of, joined}
use Rattle.xb_value.specs.Typing.{IsOfType, fits, each_passes}
use Rattle.xb_value.specs.Unflat.{Taker, taken_by, taken_times, take_step, taken_low}
use Rattle.xb_value.proofs.Lemmas.Types as types
use Rattle.xb_value.proofs.Lemmas.Types.{EachHas, ty_induction}
use Rattle.xb_value.proofs.Lemmas.Typing.{bits_of_type, tuple_of_type, array_of_type}
use Rattle.xb_value.proofs.Lemmas.Values.{flat_of-Bits, flat_of-Tuple, flat_of-Array}
use Rattle.xb_value.proofs.Lemmas.Flat.{as_wide, in_range}
use Rattle.xb_value.specs.Unflat.{unflat_of}
use Rattle.xb_value.specs.Width.{width_of}
use Rattle.dslx_core.specs.declared.expr.Shape.{Shape}
use Rattle.dslx_core.specs.Types.Typing.{all_fit, each_fits, some_fits}
use Rattle.dslx_core.proofs.OnTypes.OnOptions.{both}
use Rattle.dslx_core.proofs.OnTypes.OnTypes.{same_number}

beside : (p w v lw lv : ℕ) → (p * 2 ^ w + v) * 2 ^ lw + lv ≡ p * 2 ^ (w + lw) + (v * 2 ^ lw + lv)
beside p w v lw lv = rw (pow-add 2 w lw) (omega arith)

-- a number above the bits of a word
abbrev above : ℕ → Word → ℕ
above h x = h * 2 ^ x.width + x.value

abbrev ComesBack : Ty → Type 0
ComesBack t = (v : Value) → IsOfType t v → (h : ℕ) → taken_low t (above h (flat_of v)) ≡ (v, h)

-- one more value above those that come back
back_more : (p : Taker) (v : Value) (vs : List Value) (later : List Value × ℕ) (h : ℕ)
    → ((k : ℕ) → p (above k (flat_of v)) ≡ (v, k))
    → later ≡ (vs, above h (flat_of v))
    → ◌≡◌ {A = List Value × ℕ} ((p later.1).0 ∷ later.0, (p later.1).1) (v ∷ vs, h)
back_more p v vs later h one all =
    ap (λ (l : List Value × ℕ). ((p l.1).0 ∷ l.0, (p l.1).1)) all ∙ ap (λ (r : Value × ℕ). (r.0 ∷ vs, r.1)) (one h)

back_each : (ts : List Ty) (vs : List Value) → EachHas ComesBack ts → IsTrue (each_passes (map fits ts) vs) → (h : ℕ)
    → taken_by (map taken_low ts) (above h (joined (map flat_of vs))) ≡ (vs, h)
back_each [] [] each pass h = ap (λ n. ([], n)) (omega arith)
back_each [] (v ∷ vs) each pass h = absurd (cc)
back_each (t ∷ ts) [] each pass h = absurd (cc)
back_each (t ∷ ts) (v ∷ vs) each pass h =
    let parts = both (fits t v) (each_passes (map fits ts) vs) pass in
    let low = joined (map flat_of vs) in
    back_more (taken_low t) v vs (taken_by (map taken_low ts) (above h (joined (map flat_of (v ∷ vs))))) h
    (each.0 v parts.0)
    (ap (taken_by (map taken_low ts)) (sym (beside h (flat_of v).width (flat_of v).value low.width low.value))
    ∙ back_each ts vs each.1 parts.1 (above h (flat_of v)))

back_times : (t : Ty) (vs : List Value) → ComesBack t → IsTrue (list_all (fits t) vs) → (h : ℕ)
    → taken_times (length vs) (taken_low t) (above h (joined (map flat_of vs))) ≡ (vs, h)
back_times t [] back pass h = ap (λ n. ([], n)) (omega arith)
back_times t (v ∷ vs) back pass h =
    let parts = both (fits t v) (list_all (fits t) vs) pass in
    let low = joined (map flat_of vs) in
    back_more (taken_low t) v vs (taken_times (length vs) (taken_low t) (above h (joined (map flat_of (v ∷ vs))))) h
    (back v parts.0)
    (ap (taken_times (length vs) (taken_low t)) (sym (beside h (flat_of v).width (flat_of v).value low.width low.value))
    ∙ back_times t vs back parts.1 (above h (flat_of v)))

comes_back : (t : Ty) → ComesBack t
comes_back = ty_induction ComesBack bits tuple array
  where
    bits : (w : ℕ) → ComesBack (ty.Bits w)
    bits w v of h =
        let b = bits_of_type w v of in
        let x = b.word in
        let n = above h x in
        let in_range : x.value < 2 ^ x.width = subst (λ k. x.value < 2 ^ k) (sym b.width) b.in_range in
        ap (λ u. taken_low (ty.Bits w) (above h (flat_of u))) b.is
        ∙ ap (λ y. taken_low (ty.Bits w) (above h y)) (flat_of-Bits x)
        ∙ ap (λ (p : Taker). p n) (types.fold-Bits Taker take_step w)
        ∙ ap (λ k. (Bits (word k (n % 2 ^ k)), n / 2 ^ k)) (sym b.width)
        ∙ ap₂ (λ m k. (Bits (word x.width m), k)) (mod_low h x.width x.value in_range) (shr_high h x.width x.value in_range)
        ∙ ap (λ u. (u, h)) (sym b.is)

    tuple : (ts : List Ty) → EachHas ComesBack ts → ComesBack (ty.Tuple ts)
    tuple ts each v of h =
        let b = tuple_of_type ts v of in
        let n = above h (joined (map flat_of b.parts)) in
        ap (λ u. taken_low (ty.Tuple ts) (above h (flat_of u))) b.is
        ∙ ap (λ x. taken_low (ty.Tuple ts) (above h x)) (flat_of-Tuple b.parts)
        ∙ ap (λ (p : Taker). p n) (types.fold-Tuple Taker take_step ts)
        ∙ ap (λ (r : List Value × ℕ). (Tuple r.0, r.1)) (back_each ts b.parts each b.each h)
        ∙ ap (λ u. (u, h)) (sym b.is)

    array : (t : Ty) (k : ℕ) → ComesBack t → ComesBack (ty.Array t k)
    array t k back v of h =
        let b = array_of_type t k v of in
        let n = above h (joined (map flat_of b.parts)) in
        ap (λ u. taken_low (ty.Array t k) (above h (flat_of u))) b.is
        ∙ ap (λ x. taken_low (ty.Array t k) (above h x)) (flat_of-Array b.parts)
        ∙ ap (λ (p : Taker). p n) (types.fold-Array Taker take_step t k)
        ∙ ap (λ j. let r = taken_times j (taken_low t) n in (Array r.0, r.1)) (sym b.count)
        ∙ ap (λ (r : List Value × ℕ). (Array r.0, r.1)) (back_times t b.parts back b.all h)
        ∙ ap (λ u. (u, h)) (sym b.is)

-- the value that its flat number holds
held_back : (t : Ty) (v : Value) → IsOfType t v → unflat_of t (flat_of v).value ≡ v
held_back t v of =
    let x = flat_of v in
    let none : x.value ≡ above 0 x = omega arith in
    ap (λ n. (taken_low t n).0) none ∙ ap (λ (r : Value × ℕ). r.0) (comes_back t v of 0)

below_fits : (arms : List (List Shape)) (t : Ty) (n k : ℕ) → each_fits arms t n ≡ true → k < n → some_fits arms (unflat_of t k) ≡ true
below_fits arms t zero k e less = absurd (omega (arith, less))
below_fits arms t (suc n) k e less =
    let parts = both (some_fits arms (unflat_of t n)) (each_fits arms t n) e in
    by (k == n) refl parts.0 (λ other. below_fits arms t n k parts.1 other)
  where
    by : (b : Bool) → (k == n) ≡ b → some_fits arms (unflat_of t n) ≡ true → (k < n → some_fits arms (unflat_of t k) ≡ true) → some_fits arms (unflat_of t k) ≡ true
    by true q first rest = ap (λ j. some_fits arms (unflat_of t j)) (same_number k n q) ∙ first
    by false q first rest =
        let other : k < n = grind (arith, nat_tests, q, less) in
        rest other

-- some arm fits each value of the type
pub value_fits : (arms : List (List Shape)) (t : Ty) (v : Value) → all_fit arms t ≡ true → IsOfType t v → some_fits arms v ≡ true
value_fits arms t v e of =
    let parts = both (nat_le (width_of t) 8) (each_fits arms t (2 ^ width_of t)) e in
    let range : (flat_of v).value < 2 ^ width_of t = subst (λ w. (flat_of v).value < 2 ^ w) (as_wide t v of) (in_range t v of) in
    ap (some_fits arms) (sym (held_back t v of)) ∙ below_fits arms t (2 ^ width_of t) (flat_of v).value parts.1 range
