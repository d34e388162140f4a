-- Values that are like others, and what is bound behind what was bound.
use Rattle.std.proofs.Common.{◌≡◌, ◌==◌, ℕ, Bool, true, false, ◌&&◌, List, [], ◌∷◌, ◌++◌, map, Option, Some, None, refl, sym, ap, ap₂, subst, ◌∙◌, arith, if◌then◌else◌}
use Rattle.std.proofs.lemmas.Bool.Decides.{nat_tests}
use Rattle.std.proofs.lemmas.List.{append_assoc, append-nil}
use Rattle.xb_bits.specs.Word.{Word}
use Rattle.xb_value.specs.declared.value.Value.{Value, Bits, Tuple, Array, out-Value}
use Rattle.xb_value.specs.declared.value.Value.TheViews.{outs-Bits, outs-Tuple, outs-Array}
use Rattle.xb_value.proofs.Lemmas.Types.{EachHas}
use Rattle.xb_value.proofs.Lemmas.Values.{value_induction, value_cases}
use Rattle.xb_value.proofs.Lemmas.Values as values
use Rattle.dslx_meaning.specs.Lists.{and_then, or_else, pairwise}
use Rattle.dslx_core.specs.declared.expr.Shape.{Shape}
use Rattle.dslx_core.specs.declared.expr.Shape.TheOpen.{Shape-F}
use Rattle.dslx_core.specs.declared.expr.Shape.TheViews.{roll-Shape}
use Rattle.dslx_core.specs.declared.expr.Shape.TheFolds.{fold-roll-Shape, ind-Shape, map-Shape}
use Rattle.dslx_core.specs.CoreValues.{Bindings, TakesApart, first_apart, bits_like, tuple_like, array_like, like_step, is_like, tuple_values_step, apart_each, shape_step, taken_apart}
use Rattle.dslx_core.proofs.OnTypes.OnOptions.{both, and_both}
use Rattle.dslx_core.proofs.OnTypes.OnTypes.{same_number}

-- ---- values that are like others are the same

like-Bits : (x : Word) (v : Value) → is_like (Bits x) v ≡ bits_like x (out-Value v)
like-Bits x v = ap (λ (f : Value → Bool). f v) (values.fold-Bits (Value → Bool) like_step x)

like-Tuple : (ws : List Value) (v : Value) → is_like (Tuple ws) v ≡ tuple_like (map is_like ws) (out-Value v)
like-Tuple ws v = ap (λ (f : Value → Bool). f v) (values.fold-Tuple (Value → Bool) like_step ws)

like-Array : (ws : List Value) (v : Value) → is_like (Array ws) v ≡ array_like (map is_like ws) (out-Value v)
like-Array ws v = ap (λ (f : Value → Bool). f v) (values.fold-Array (Value → Bool) like_step ws)

abbrev pub IsSameWhereLike : Value → Type 0
IsSameWhereLike w = (v : Value) → is_like w v ≡ true → w ≡ v

each_like : (ws vs : List Value) → EachHas IsSameWhereLike ws → pairwise (λ (p : Value → Bool) v. p v) (map is_like ws) vs ≡ true → ws ≡ vs
each_like [] [] each h = refl
each_like [] (v ∷ vs) each h = absurd (cc)
each_like (w ∷ ws) [] each h = absurd (cc)
each_like (w ∷ ws) (v ∷ vs) each h =
    let parts = both (is_like w v) (pairwise (λ (p : Value → Bool) v. p v) (map is_like ws) vs) h in
    ap₂ (λ x xs. x ∷ xs) (each.0 v parts.0) (each_like ws vs each.1 parts.1)

word_like : (x y : Word) → (x.width == y.width && x.value == y.value) ≡ true → x ≡ y
word_like x y h =
    let parts = both (x.width == y.width) (x.value == y.value) h in
    let width = same_number x.width y.width parts.0 in
    let number = same_number x.value y.value parts.1 in
    λ i. record { width = width i; value = number i }

pub like_is : (w : Value) → IsSameWhereLike w
like_is = value_induction IsSameWhereLike
    (λ x v h. value_cases (λ v. bits_like x (out-Value v) ≡ true → Bits x ≡ v)
    (λ y k. ap Bits (word_like x y (sym (ap (bits_like x) (outs-Bits y)) ∙ k)))
    (λ vs k. let never : false ≡ true = sym (ap (bits_like x) (outs-Tuple vs)) ∙ k in absurd (cc))
    (λ vs k. let never : false ≡ true = sym (ap (bits_like x) (outs-Array vs)) ∙ k in absurd (cc))
    v (sym (like-Bits x v) ∙ h))
    (λ ws each v h. value_cases (λ v. tuple_like (map is_like ws) (out-Value v) ≡ true → Tuple ws ≡ v)
    (λ y k. let never : false ≡ true = sym (ap (tuple_like (map is_like ws)) (outs-Bits y)) ∙ k in absurd (cc))
    (λ vs k. ap Tuple (each_like ws vs each (sym (ap (tuple_like (map is_like ws)) (outs-Tuple vs)) ∙ k)))
    (λ vs k. let never : false ≡ true = sym (ap (tuple_like (map is_like ws)) (outs-Array vs)) ∙ k in absurd (cc))
    v (sym (like-Tuple ws v) ∙ h))
    (λ ws each v h. value_cases (λ v. array_like (map is_like ws) (out-Value v) ≡ true → Array ws ≡ v)
    (λ y k. let never : false ≡ true = sym (ap (array_like (map is_like ws)) (outs-Bits y)) ∙ k in absurd (cc))
    (λ vs k. let never : false ≡ true = sym (ap (array_like (map is_like ws)) (outs-Tuple vs)) ∙ k in absurd (cc))
    (λ vs k. ap Array (each_like ws vs each (sym (ap (array_like (map is_like ws)) (outs-Array vs)) ∙ k)))
    v (sym (like-Array ws v) ∙ h))

same_test : (n : ℕ) → (n == n) ≡ true
same_test n = grind (arith, nat_tests)

each_itself : (ws : List Value) → EachHas (λ w. is_like w w ≡ true) ws → pairwise (λ (p : Value → Bool) v. p v) (map is_like ws) ws ≡ true
each_itself [] each = refl
each_itself (w ∷ ws) each = and_both (is_like w w) _ each.0 (each_itself ws each.1)

pub like_itself : (w : Value) → is_like w w ≡ true
like_itself = value_induction (λ w. is_like w w ≡ true)
    (λ x. like-Bits x (Bits x) ∙ (ap (bits_like x) (outs-Bits x) ∙ and_both (x.width == x.width) (x.value == x.value) (same_test x.width) (same_test x.value)))
    (λ ws each. like-Tuple ws (Tuple ws) ∙ (ap (tuple_like (map is_like ws)) (outs-Tuple ws) ∙ each_itself ws each))
    (λ ws each. like-Array ws (Array ws) ∙ (ap (array_like (map is_like ws)) (outs-Array ws) ∙ each_itself ws each))

-- ---- what is bound stands behind what was bound, and doesn't depend on it

abbrev pub behind : Bindings → Option Bindings → Option Bindings
behind bound o = and_then o (λ more. Some (bound ++ more))

abbrev pub BindsBehind : TakesApart → Type 0
BindsBehind p = (v : Value) (bound : Bindings) → p v bound ≡ behind bound (p v [])

abbrev EachBehind : List TakesApart → Type 0
EachBehind [] = Unit {0}
EachBehind (p ∷ ps) = BindsBehind p × EachBehind ps

then_behind : (bound : Bindings) (o : Option Bindings) (f : Bindings → Option Bindings) → ((more : Bindings) → f (bound ++ more) ≡ behind bound (f more)) → and_then (behind bound o) f ≡ behind bound (and_then o f)
then_behind bound None f h = refl
then_behind bound (Some more) f h = h more

behind_twice : (bound more : Bindings) (o : Option Bindings) → behind (bound ++ more) o ≡ behind bound (behind more o)
behind_twice bound more None = refl
behind_twice bound more (Some rest) = ap Some (append_assoc bound more rest)

each_behind : (ps : List TakesApart) → EachBehind ps → (vs : List Value) (bound : Bindings) → apart_each ps vs bound ≡ behind bound (apart_each ps vs [])
each_behind [] each [] bound = ap Some (sym (append-nil bound))
each_behind [] each (v ∷ vs) bound = refl
each_behind (p ∷ ps) each [] bound = refl
each_behind (p ∷ ps) each (v ∷ vs) bound =
    ap (λ o. and_then o (apart_each ps vs)) (each.0 v bound)
    ∙ then_behind bound (p v []) (apart_each ps vs) (λ more. each_behind ps each.1 vs (bound ++ more) ∙ (behind_twice bound more (apart_each ps vs []) ∙ ap (behind bound) (sym (each_behind ps each.1 vs more))))

if_behind : (b : Bool) (bound : Bindings) → (if b then Some bound else None) ≡ behind bound (if b then Some [] else None)
if_behind true bound = ap Some (sym (append-nil bound))
if_behind false bound = refl

tuple_behind : (ps : List TakesApart) → EachBehind ps → (o : Option (List Value)) (bound : Bindings) → and_then o (λ vs. apart_each ps vs bound) ≡ behind bound (and_then o (λ vs. apart_each ps vs []))
tuple_behind ps each None bound = refl
tuple_behind ps each (Some vs) bound = each_behind ps each vs bound

abbrev Kept : Type 0
Kept = (s : Shape) × BindsBehind (taken_apart s)

abbrev shape_of : Kept → Shape
shape_of k = k.0

all_behind : (ks : List Kept) → EachBehind (map taken_apart (map shape_of ks))
all_behind [] = tt
all_behind (k ∷ ks) = (k.1, all_behind ks)

layer_behind : (x : Shape-F Kept) → BindsBehind (shape_step (map-Shape Shape TakesApart taken_apart (map-Shape Kept Shape shape_of x)))
layer_behind Shape-F.Wild v bound = ap Some (sym (append-nil bound))
layer_behind Shape-F.Bound v bound = refl
layer_behind (Shape-F.Equal w) v bound = if_behind (is_like w v) bound
layer_behind (Shape-F.Tuple ks) v bound = tuple_behind (map taken_apart (map shape_of ks)) (all_behind ks) (tuple_values_step (out-Value v)) bound

pub binds_behind : (s : Shape) → BindsBehind (taken_apart s)
binds_behind = ind-Shape (λ s. BindsBehind (taken_apart s)) (λ x y is. subst (λ z. BindsBehind (taken_apart (roll-Shape z))) is
    (subst BindsBehind (sym (fold-roll-Shape TakesApart shape_step (map-Shape Kept Shape shape_of y))) (layer_behind y)))

or_behind : (bound : Bindings) (o p : Option Bindings) → or_else (behind bound o) (behind bound p) ≡ behind bound (or_else o p)
or_behind bound None p = refl
or_behind bound (Some more) p = refl

-- so it is with alternatives
pub first_behind : (ps : List Shape) (v : Value) (bound : Bindings) → first_apart ps v bound ≡ behind bound (first_apart ps v [])
first_behind [] v bound = refl
first_behind (p ∷ ps) v bound = ap₂ or_else (binds_behind p v bound) (first_behind ps v bound) ∙ or_behind bound (taken_apart p v []) (first_apart ps v [])
