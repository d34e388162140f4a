-- Types that are one, and types of a form.
use Rattle.std.proofs.Common.{◌≡◌, ℕ, ◌==◌, ◌≤◌, ◌<◌, Bool, true, false, List, ◌∷◌, map, Option, Some, None, refl, sym, ap, ap₂, ◌∙◌, arith, []}
use Rattle.std.specs.Prelude.{nat_lt, nat_le}
use Rattle.std.proofs.lemmas.Bool.Decides.{nat_tests}
use Rattle.xb_value.specs.declared.ty.Ty.{Ty, Bits, Tuple, Array, out-Ty}
use Rattle.xb_value.specs.declared.ty.Ty.TheViews.{outs-Bits, outs-Tuple, outs-Array}
use Rattle.xb_value.proofs.Lemmas.Types.{EachHas, ty_induction, fold-Bits, fold-Tuple, fold-Array}
use Rattle.dslx_core.proofs.OnTypes.OnOptions.{and_both, where_so}
use Rattle.dslx_meaning.specs.Lists.{where_true, pairwise}
use Rattle.dslx_core.specs.CoreValues.{is_width}
use Rattle.dslx_core.specs.Types.Typing.{bits_alike, tuple_alike, array_alike, same_type_step, is_type, width_step, bits_width, parts_step, parts_of_tuple, Elements, elements, elements_step, elements_of, if_alike}
use Rattle.dslx_core.proofs.OnTypes.OnOptions.{both, some_same, then_is, where_is}

pub same_number : (n m : ℕ) → (n == m) ≡ true → n ≡ m
same_number n m h = grind (arith, nat_tests, h)

-- ---- equal types

abbrev IsOne : Ty → Type 0
IsOne t = (u : Ty) → is_type t u ≡ true → t ≡ u

bits_one : (v : ℕ) (u : Ty) → bits_alike v (out-Ty u) ≡ true → Bits v ≡ u
bits_one v = ty_induction (λ u. bits_alike v (out-Ty u) ≡ true → Bits v ≡ u)
    (λ w h. ap Bits (same_number v w (sym (ap (bits_alike v) (outs-Bits w)) ∙ h)))
    (λ ts each h. let never : false ≡ true = sym (ap (bits_alike v) (outs-Tuple ts)) ∙ h in absurd (cc))
    (λ e n one h. let never : false ≡ true = sym (ap (bits_alike v) (outs-Array e n)) ∙ h in absurd (cc))

each_one : (ts us : List Ty) → EachHas IsOne ts → pairwise (λ (p : Ty → Bool) u. p u) (map is_type ts) us ≡ true → ts ≡ us
each_one [] [] each h = refl
each_one [] (u ∷ us) each h = absurd (cc)
each_one (t ∷ ts) [] each h = absurd (cc)
each_one (t ∷ ts) (u ∷ us) each h =
    let parts = both (is_type t u) (pairwise (λ (p : Ty → Bool) u. p u) (map is_type ts) us) h in
    ap₂ (λ x xs. x ∷ xs) (each.0 u parts.0) (each_one ts us each.1 parts.1)

tuple_one : (ts : List Ty) → EachHas IsOne ts → (u : Ty) → tuple_alike (map is_type ts) (out-Ty u) ≡ true → Tuple ts ≡ u
tuple_one ts each = ty_induction (λ u. tuple_alike (map is_type ts) (out-Ty u) ≡ true → Tuple ts ≡ u)
    (λ w h. let never : false ≡ true = sym (ap (tuple_alike (map is_type ts)) (outs-Bits w)) ∙ h in absurd (cc))
    (λ us all h. ap Tuple (each_one ts us each (sym (ap (tuple_alike (map is_type ts)) (outs-Tuple us)) ∙ h)))
    (λ e n one h. let never : false ≡ true = sym (ap (tuple_alike (map is_type ts)) (outs-Array e n)) ∙ h in absurd (cc))

array_one : (t : Ty) (n : ℕ) → IsOne t → (u : Ty) → array_alike (is_type t) n (out-Ty u) ≡ true → Array t n ≡ u
array_one t n one = ty_induction (λ u. array_alike (is_type t) n (out-Ty u) ≡ true → Array t n ≡ u)
    (λ w h. let never : false ≡ true = sym (ap (array_alike (is_type t) n) (outs-Bits w)) ∙ h in absurd (cc))
    (λ us all h. let never : false ≡ true = sym (ap (array_alike (is_type t) n) (outs-Tuple us)) ∙ h in absurd (cc))
    (λ e m other h.
    let parts = both (is_type t e) (n == m) (sym (ap (array_alike (is_type t) n) (outs-Array e m)) ∙ h) in
    ap₂ Array (one e parts.0) (same_number n m parts.1))

pub one_type : (t : Ty) → IsOne t
one_type = ty_induction IsOne
    (λ v u h. bits_one v u (sym (ap (λ (f : Ty → Bool). f u) (fold-Bits (Ty → Bool) same_type_step v)) ∙ h))
    (λ ts each u h. tuple_one ts each u (sym (ap (λ (f : Ty → Bool). f u) (fold-Tuple (Ty → Bool) same_type_step ts)) ∙ h))
    (λ t n one u h. array_one t n one u (sym (ap (λ (f : Ty → Bool). f u) (fold-Array (Ty → Bool) same_type_step t n)) ∙ h))

same_count : (n : ℕ) → (n == n) ≡ true
same_count n = grind (arith, nat_tests)

each_itself : (ts : List Ty) → EachHas (λ t. is_type t t ≡ true) ts → pairwise (λ (p : Ty → Bool) u. p u) (map is_type ts) ts ≡ true
each_itself [] each = refl
each_itself (t ∷ ts) each = and_both (is_type t t) (pairwise (λ (p : Ty → Bool) u. p u) (map is_type ts) ts) each.0 (each_itself ts each.1)

-- a type is like itself
pub type_itself : (t : Ty) → is_type t t ≡ true
type_itself = ty_induction (λ t. is_type t t ≡ true)
    (λ w. ap (λ (f : Ty → Bool). f (Bits w)) (fold-Bits (Ty → Bool) same_type_step w) ∙ (ap (bits_alike w) (outs-Bits w) ∙ same_count w))
    (λ ts each. ap (λ (f : Ty → Bool). f (Tuple ts)) (fold-Tuple (Ty → Bool) same_type_step ts) ∙ (ap (tuple_alike (map is_type ts)) (outs-Tuple ts) ∙ each_itself ts each))
    (λ t n one. ap (λ (f : Ty → Bool). f (Array t n)) (fold-Array (Ty → Bool) same_type_step t n) ∙ (ap (array_alike (is_type t) n) (outs-Array t n) ∙ and_both (is_type t t) (n == n) one (same_count n)))

pub alike_itself : (t : Ty) → if_alike t (Some t) ≡ Some t
alike_itself t = where_so (is_type t t) (Some t) (type_itself t)

-- what is of this type is so
pub if_alike_is : (t s : Ty) (o : Option Ty) → if_alike t o ≡ Some s → (t ≡ s) × (o ≡ Some s)
if_alike_is t s o h =
    let found = then_is o (λ u. where_true (is_type t u) (Some t)) s h in
    let test = where_is (is_type t found.first) (Some t) s found.gives in
    let same = some_same t s test.1 in
    (same, found.is ∙ ap Some (sym (one_type t found.first test.0) ∙ same))

-- ---- types of a form

pub width_of_bits : (w : ℕ) → is_width w ≡ true → bits_width (Bits w) ≡ Some w
width_of_bits w h = ap width_step (outs-Bits w) ∙ where_so (is_width w) (Some w) h

pub parts_of : (ts : List Ty) → parts_of_tuple (Tuple ts) ≡ Some ts
parts_of ts = ap parts_step (outs-Tuple ts)

pub elements_of_array : (t : Ty) (n : ℕ) → nat_lt 0 n ≡ true → elements_of (Array t n) ≡ Some (elements t n)
elements_of_array t n h = ap elements_step (outs-Array t n) ∙ where_so (nat_lt 0 n) (Some (elements t n)) h

pub record IsBitsType (t : Ty) (w : ℕ) : Type 0 where
  pub is : t ≡ Bits w
  pub some : 1 ≤ w
  pub most : w ≤ 128

pub width_bounds : (w : ℕ) → is_width w ≡ true → (1 ≤ w) × (w ≤ 128)
width_bounds w h =
    let parts = both (nat_lt 0 w) (nat_le w 128) h in
    let positive : 0 < w = grind (arith, nat_tests, parts.0) in
    let few : w ≤ 128 = grind (arith, nat_tests, parts.1) in
    (omega (arith, positive), few)

pub bits_type : (t : Ty) (w : ℕ) → bits_width t ≡ Some w → IsBitsType t w
bits_type = ty_induction (λ t. (w : ℕ) → bits_width t ≡ Some w → IsBitsType t w)
    (λ v w h.
    let test = where_is (is_width v) (Some v) w (sym (ap width_step (outs-Bits v)) ∙ h) in
    let same = some_same v w test.1 in
    let bounds = width_bounds v test.0 in
    record { is = ap Bits same; some = omega (arith, same, bounds.0); most = omega (arith, same, bounds.1) })
    (λ ts each w h. let never : None ≡ Some w = sym (ap width_step (outs-Tuple ts)) ∙ h in absurd (cc))
    (λ e n one w h. let never : None ≡ Some w = sym (ap width_step (outs-Array e n)) ∙ h in absurd (cc))

pub tuple_type : (t : Ty) (ts : List Ty) → parts_of_tuple t ≡ Some ts → t ≡ Tuple ts
tuple_type = ty_induction (λ t. (ts : List Ty) → parts_of_tuple t ≡ Some ts → t ≡ Tuple ts)
    (λ v ts h. let never : None ≡ Some ts = sym (ap parts_step (outs-Bits v)) ∙ h in absurd (cc))
    (λ us each ts h. ap Tuple (some_same us ts (sym (ap parts_step (outs-Tuple us)) ∙ h)))
    (λ e n one ts h. let never : None ≡ Some ts = sym (ap parts_step (outs-Array e n)) ∙ h in absurd (cc))

pub record IsArrayType (t : Ty) (a : Elements) : Type 0 where
  pub is : t ≡ Array a.element a.count
  pub some : 1 ≤ a.count

pub array_type : (t : Ty) (a : Elements) → elements_of t ≡ Some a → IsArrayType t a
array_type = ty_induction (λ t. (a : Elements) → elements_of t ≡ Some a → IsArrayType t a)
    (λ v a h. let never : None ≡ Some a = sym (ap elements_step (outs-Bits v)) ∙ h in absurd (cc))
    (λ us each a h. let never : None ≡ Some a = sym (ap elements_step (outs-Tuple us)) ∙ h in absurd (cc))
    (λ e n one a h.
    let test = where_is (nat_lt 0 n) (Some (elements e n)) a (sym (ap elements_step (outs-Array e n)) ∙ h) in
    let same = some_same (elements e n) a test.1 in
    let positive : 0 < n = grind (arith, nat_tests, test.0) in
    let count : n ≡ a.count = ap (λ (x : Elements). x.count) same in
    record { is = ap (λ (x : Elements). Array x.element x.count) same; some = omega (arith, positive, count) })
