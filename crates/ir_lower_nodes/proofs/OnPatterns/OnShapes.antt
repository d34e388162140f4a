-- What patterns do with values: they fit or not, and bind parts of them.
use Rattle.std.proofs.Common.{◌≡◌, suc, ◌+◌, Bool, true, false, ◌&&◌, List, ◌∷◌, ◌++◌, map, length, Option, Some, None, refl, sym, ap, subst, ◌∙◌, arith, if◌then◌else◌, length-append, []}
use Rattle.std.specs.Prelude.{◌||◌}
use Rattle.std.proofs.lemmas.List.{append_assoc, append-nil, length-map}
use Rattle.xb_value.specs.declared.ty.Ty.{Ty}
use Rattle.xb_value.specs.declared.value.Value.{Value, out-Value}
use Rattle.xb_value.specs.Typing.{IsOfType, fits}
use Rattle.ir_rebuild.proofs.Lemmas.Putting.Tests.{passes_length}
use Rattle.dslx_meaning.specs.Lists.{and_then, or_else, where_true}
use Rattle.dslx_core.specs.declared.expr.Shape.{Shape, out-Shape, fold-Shape}
use Rattle.dslx_core.specs.declared.expr.Shape as shape
use Rattle.dslx_core.specs.declared.expr.Shape.TheOpen.{Shape-F}
use Rattle.dslx_core.specs.declared.expr.Shape.TheViews.{roll-Shape}
use Rattle.dslx_core.specs.declared.expr.Shape.TheViews as views
use Rattle.dslx_core.specs.declared.expr.Shape.TheFolds.{fold-roll-Shape, fold_out-Shape, ind-Shape, map-Shape}
use Rattle.dslx_core.specs.CoreValues.{Bindings, TakesApart, first_apart, is_like, tuple_values_step, apart_each, shape_step, taken_apart}
use Rattle.dslx_core.specs.Types.Typing.{binds_types, is_fit, none_bound, each_binds_none, arm_binds}
use Rattle.dslx_core.specs.Types.Sound.{AreOfTypes}
use Rattle.dslx_core.proofs.Lemmas.Types.{Binds, is_shape, arm_fits, first_behind}
use Rattle.ir_lower_nodes.specs.Patterns.Shapes.{each_fit, tuple_fit, fit_step, fits_shape, any_fit, each_parts, parts_or_none, part_step, parts_of, arm_parts}
use Rattle.ir_lower_nodes.specs.Patterns.Given.{AreCompared}

-- ---- each kind of pattern

opened : (A : Type 0) (step : Shape-F A → A) (s : Shape) (x : Shape-F Shape) → out-Shape s ≡ x → fold-Shape A step s ≡ step (map-Shape Shape A (fold-Shape A step) x)
opened A step s x h = fold_out-Shape A step s ∙ ap (λ y. step (map-Shape Shape A (fold-Shape A step) y)) h

pub fits_wild : fits_shape shape.Wild ≡ fit_step Shape-F.Wild
fits_wild = opened (Value → Bool) fit_step shape.Wild Shape-F.Wild views.outs-Wild

pub fits_bound : fits_shape shape.Bound ≡ fit_step Shape-F.Bound
fits_bound = opened (Value → Bool) fit_step shape.Bound Shape-F.Bound views.outs-Bound

pub fits_equal : (w : Value) → fits_shape (shape.Equal w) ≡ fit_step (Shape-F.Equal w)
fits_equal w = opened (Value → Bool) fit_step (shape.Equal w) (Shape-F.Equal w) (views.outs-Equal w)

pub fits_tuple : (ss : List Shape) → fits_shape (shape.Tuple ss) ≡ fit_step (Shape-F.Tuple (map fits_shape ss))
fits_tuple ss = opened (Value → Bool) fit_step (shape.Tuple ss) (Shape-F.Tuple ss) (views.outs-Tuple ss)

pub parts_wild : parts_of shape.Wild ≡ part_step Shape-F.Wild
parts_wild = opened (Value → List Value) part_step shape.Wild Shape-F.Wild views.outs-Wild

pub parts_bound : parts_of shape.Bound ≡ part_step Shape-F.Bound
parts_bound = opened (Value → List Value) part_step shape.Bound Shape-F.Bound views.outs-Bound

pub parts_equal : (w : Value) → parts_of (shape.Equal w) ≡ part_step (Shape-F.Equal w)
parts_equal w = opened (Value → List Value) part_step (shape.Equal w) (Shape-F.Equal w) (views.outs-Equal w)

pub parts_tuple : (ss : List Shape) → parts_of (shape.Tuple ss) ≡ part_step (Shape-F.Tuple (map parts_of ss))
parts_tuple ss = opened (Value → List Value) part_step (shape.Tuple ss) (Shape-F.Tuple ss) (views.outs-Tuple ss)

-- ---- what is taken apart

-- it is bound behind what was bound, where the value fits
abbrev IsApart : TakesApart → (Value → Bool) → (Value → List Value) → Type 0
IsApart p f q = (v : Value) (bound : Bindings) → p v bound ≡ (if f v then Some (bound ++ q v) else None)

abbrev AreApart : List TakesApart → List (Value → Bool) → List (Value → List Value) → Type 0
AreApart [] [] [] = Unit {0}
AreApart (p ∷ ps) (f ∷ fs) (q ∷ qs) = IsApart p f q × AreApart ps fs qs
AreApart _ _ _ = ⊥

then_apart : (a b : Bool) (bound more rest : Bindings) (g : Bindings → Option Bindings) → ((inner : Bindings) → g inner ≡ (if b then Some (inner ++ rest) else None)) → and_then (if a then Some (bound ++ more) else None) g ≡ (if a && b then Some (bound ++ (more ++ rest)) else None)
then_apart true b bound more rest g e = e (bound ++ more) ∙ ap (λ xs. if b then Some xs else None) (append_assoc bound more rest)
then_apart false b bound more rest g e = refl

each_apart : (ps : List TakesApart) (fs : List (Value → Bool)) (qs : List (Value → List Value)) → AreApart ps fs qs → (vs : List Value) (bound : Bindings) → apart_each ps vs bound ≡ (if each_fit fs vs then Some (bound ++ each_parts qs vs) else None)
each_apart [] [] [] h [] bound = ap Some (sym (append-nil bound))
each_apart [] [] [] h (v ∷ vs) bound = refl
each_apart [] [] (q ∷ qs) h vs bound = absurd h
each_apart [] (f ∷ fs) qs h vs bound = absurd h
each_apart (p ∷ ps) [] qs h vs bound = absurd h
each_apart (p ∷ ps) (f ∷ fs) [] h vs bound = absurd h
each_apart (p ∷ ps) (f ∷ fs) (q ∷ qs) h [] bound = refl
each_apart (p ∷ ps) (f ∷ fs) (q ∷ qs) h (v ∷ vs) bound =
    ap (λ o. and_then o (apart_each ps vs)) (h.0 v bound)
    ∙ then_apart (f v) (each_fit fs vs) bound (q v) (each_parts qs vs) (apart_each ps vs) (λ inner. each_apart ps fs qs h.1 vs inner)

tuple_apart : (ps : List TakesApart) (fs : List (Value → Bool)) (qs : List (Value → List Value)) → AreApart ps fs qs → (o : Option (List Value)) (bound : Bindings) → and_then o (λ vs. apart_each ps vs bound) ≡ (if tuple_fit fs o then Some (bound ++ each_parts qs (parts_or_none o)) else None)
tuple_apart ps fs qs h None bound = refl
tuple_apart ps fs qs h (Some vs) bound = each_apart ps fs qs h vs bound

abbrev IsShapeApart : Shape → Type 0
IsShapeApart s = IsApart (taken_apart s) (fits_shape s) (parts_of s)

abbrev Held : Type 0
Held = (s : Shape) × IsShapeApart s

abbrev shape_in : Held → Shape
shape_in k = k.0

all_apart : (ks : List Held) → AreApart (map taken_apart (map shape_in ks)) (map fits_shape (map shape_in ks)) (map parts_of (map shape_in ks))
all_apart [] = tt
all_apart (k ∷ ks) = (k.1, all_apart ks)

layer : (x : Shape-F Held) → IsApart (shape_step (map-Shape Shape TakesApart taken_apart (map-Shape Held Shape shape_in x))) (fit_step (map-Shape Shape (Value → Bool) fits_shape (map-Shape Held Shape shape_in x))) (part_step (map-Shape Shape (Value → List Value) parts_of (map-Shape Held Shape shape_in x)))
layer Shape-F.Wild v bound = ap Some (sym (append-nil bound))
layer Shape-F.Bound v bound = refl
layer (Shape-F.Equal w) v bound = ap (λ xs. if is_like w v then Some xs else None) (sym (append-nil bound))
layer (Shape-F.Tuple ks) v bound = tuple_apart (map taken_apart (map shape_in ks)) (map fits_shape (map shape_in ks)) (map parts_of (map shape_in ks)) (all_apart ks) (tuple_values_step (out-Value v)) bound

pub apart_is : (s : Shape) → IsShapeApart s
apart_is = ind-Shape IsShapeApart (λ x y is. subst (λ z. IsShapeApart (roll-Shape z)) is (rolled y))
  where
    rolled : (y : Shape-F Held) → IsShapeApart (roll-Shape (map-Shape Held Shape shape_in y))
    rolled y =
        let z = map-Shape Held Shape shape_in y in
        subst (λ p. IsApart p (fits_shape (roll-Shape z)) (parts_of (roll-Shape z))) (sym (fold-roll-Shape TakesApart shape_step z))
        (subst (λ f. IsApart (shape_step (map-Shape Shape TakesApart taken_apart z)) f (parts_of (roll-Shape z))) (sym (fold-roll-Shape (Value → Bool) fit_step z))
        (subst (λ q. IsApart (shape_step (map-Shape Shape TakesApart taken_apart z)) (fit_step (map-Shape Shape (Value → Bool) fits_shape z)) q) (sym (fold-roll-Shape (Value → List Value) part_step z)) (layer y)))

-- a pattern that always fits
pub always_apart : (s : Shape) (t : Ty) (ts us : List Ty) (v : Value) (bound : Bindings) → IsOfType t v → AreOfTypes ts bound → binds_types true s t ts ≡ Some us → taken_apart s v bound ≡ Some (bound ++ parts_of s v)
always_apart s t ts us v bound of own e = by (fits_shape s v) (apart_is s v bound) ((is_shape s).always t ts us v bound of own e)
  where
    by : (b : Bool) → taken_apart s v bound ≡ (if b then Some (bound ++ parts_of s v) else None) → Binds (taken_apart s v bound) us → taken_apart s v bound ≡ Some (bound ++ parts_of s v)
    by true h all = h
    by false h all = let never : None ≡ Some all.more = sym h ∙ all.is in absurd (cc)

-- ---- alternatives

or_fit : (b : Bool) (xs : Bindings) (o : Option Bindings) → is_fit (or_else (if b then Some xs else None) o) ≡ (b || is_fit o)
or_fit true xs o = refl
or_fit false xs o = refl

-- one fits where something is taken apart
pub any_first : (ps : List Shape) (v : Value) (bound : Bindings) → is_fit (first_apart ps v bound) ≡ any_fit ps v
any_first [] v bound = refl
any_first (p ∷ ps) v bound =
    ap (λ o. is_fit (or_else o (first_apart ps v bound))) (apart_is p v bound)
    ∙ (or_fit (fits_shape p v) (bound ++ parts_of p v) (first_apart ps v bound) ∙ ap (λ b. fits_shape p v || b) (any_first ps v bound))

one_only : (b : Bool) (xs : Bindings) → or_else (if b then Some xs else None) None ≡ (if b || false then Some xs else None)
one_only true xs = refl
one_only false xs = refl

none_more : (bound more : Bindings) → length (bound ++ more) ≡ length bound → more ≡ []
none_more bound [] e = refl
none_more bound (v ∷ more) e =
    let long : length (bound ++ v ∷ more) ≡ length bound + length (v ∷ more) = length-append bound (v ∷ more) in
    let some : length (v ∷ more) ≡ suc (length more) = refl in
    absurd (omega (arith, long, some, e))

typed_length : (ts : List Ty) (bound : Bindings) → AreOfTypes ts bound → length bound ≡ length ts
typed_length ts bound h = passes_length (map fits ts) bound h ∙ length-map ts fits

where_same : (b : Bool) (ts us : List Ty) → where_true b (Some ts) ≡ Some us → ts ≡ us
where_same true ts us h = cc
where_same false ts us h = absurd (cc)

-- what an arm binds, where one of its alternatives fits
pub arm_apart : (ps : List Shape) (t : Ty) (ts us : List Ty) (v : Value) (bound : Bindings) → IsOfType t v → AreOfTypes ts bound → arm_binds ps t ts ≡ Some us → first_apart ps v bound ≡ (if any_fit ps v then Some (bound ++ arm_parts ps v) else None)
arm_apart [] t ts us v bound of own e = refl
arm_apart (p ∷ []) t ts us v bound of own e = ap (λ o. or_else o None) (apart_is p v bound) ∙ one_only (fits_shape p v) (bound ++ parts_of p v)
arm_apart (p ∷ q ∷ ps) t ts us v bound of own e = by (first_apart (p ∷ q ∷ ps) v []) (first_behind (p ∷ q ∷ ps) v bound)
  where
    same : ts ≡ us
    same = where_same (each_binds_none (p ∷ q ∷ ps) t ts) ts us e

    fit : (o : Option Bindings) → first_apart (p ∷ q ∷ ps) v bound ≡ o → any_fit (p ∷ q ∷ ps) v ≡ is_fit o
    fit o h = sym (any_first (p ∷ q ∷ ps) v bound) ∙ ap is_fit h

    by : (o : Option Bindings) → first_apart (p ∷ q ∷ ps) v bound ≡ and_then o (λ more. Some (bound ++ more)) → first_apart (p ∷ q ∷ ps) v bound ≡ (if any_fit (p ∷ q ∷ ps) v then Some (bound ++ []) else None)
    by None h = h ∙ ap (λ b. if b then Some (bound ++ []) else None) (sym (fit None h))
    by (Some more) h =
        let typed = arm_fits (p ∷ q ∷ ps) t ts us v bound of own e (bound ++ more) h in
        let count = typed_length us (bound ++ more) typed ∙ (ap length (sym same) ∙ sym (typed_length ts bound own)) in
        h ∙ (ap (λ xs. Some (bound ++ xs)) (none_more bound more count) ∙ ap (λ b. if b then Some (bound ++ []) else None) (sym (fit (Some (bound ++ more)) h)))

-- ---- what may be compared

none_is : (p : Shape) (t : Ty) (ts : List Ty) → none_bound (length ts) (binds_types false p t ts) ≡ true → (us : List Ty) × (binds_types false p t ts ≡ Some us)
none_is p t ts h = by (binds_types false p t ts) refl h
  where
    by : (o : Option (List Ty)) → binds_types false p t ts ≡ o → none_bound (length ts) o ≡ true → (us : List Ty) × (binds_types false p t ts ≡ Some us)
    by None e k = absurd (cc)
    by (Some us) e k = (us, e)

both_so : (a b : Bool) → (a && b) ≡ true → (a ≡ true) × (b ≡ true)
both_so true true h = (refl, refl)
both_so true false h = absurd (cc)
both_so false b h = absurd (cc)

each_compared : (ps : List Shape) (t : Ty) (ts : List Ty) → each_binds_none ps t ts ≡ true → AreCompared ps t
each_compared [] t ts h = tt
each_compared (p ∷ ps) t ts h =
    let parts = both_so (none_bound (length ts) (binds_types false p t ts)) (each_binds_none ps t ts) h in
    let one = none_is p t ts parts.0 in
    ((ts, one.0, one.1), each_compared ps t ts parts.1)

where_test : (b : Bool) (ts us : List Ty) → where_true b (Some ts) ≡ Some us → b ≡ true
where_test true ts us h = refl
where_test false ts us h = absurd (cc)

pub compared : (ps : List Shape) (t : Ty) (ts us : List Ty) → arm_binds ps t ts ≡ Some us → AreCompared ps t
compared [] t ts us e = tt
compared (p ∷ []) t ts us e = ((ts, us, e), tt)
compared (p ∷ q ∷ ps) t ts us e = each_compared (p ∷ q ∷ ps) t ts (where_test (each_binds_none (p ∷ q ∷ ps) t ts) ts us e)
