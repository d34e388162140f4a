-- What is taken apart is bound behind what was bound before.
use Rattle.std.proofs.Common.{◌≡◌, Bool, true, false, List, [], ◌∷◌, ◌++◌, Option, Some, None, take, length, map, refl, sym, ap, subst, ◌∙◌, if◌then◌else◌}
use Rattle.std.proofs.lemmas.List.{append_assoc, append-nil}
use Rattle.xb_value.specs.declared.value.Value.{Value, out-Value}
use Rattle.dslx_meaning.specs.Lists.{and_then, or_else}
use Rattle.dslx_core.specs.declared.expr.Shape.{Shape}
use Rattle.dslx_core.specs.declared.expr.Shape.TheOpen.{Shape-F}
use Rattle.dslx_core.specs.declared.expr.Shape.TheViews.{roll-Shape}
use Rattle.dslx_core.specs.declared.expr.Shape.TheFolds.{fold-roll-Shape, ind-Shape, map-Shape}
use Rattle.dslx_core.specs.CoreValues.{Bindings, TakesApart, is_like, tuple_values_step, apart_each, shape_step, taken_apart, first_apart}

-- some are bound behind others
abbrev pub Extends : Bindings → Bindings → Type 0
Extends bound more = (rest : List Value) × (more ≡ bound ++ rest)

abbrev pub KeepsPrefix : TakesApart → Type 0
KeepsPrefix p = (v : Value) (bound more : Bindings) → p v bound ≡ Some more → Extends bound more

abbrev pub EachKeeps : List TakesApart → Type 0
EachKeeps [] = Unit {0}
EachKeeps (p ∷ ps) = KeepsPrefix p × EachKeeps ps

pub same_extends : (bound more : Bindings) → Some bound ≡ Some more → Extends bound more
same_extends bound more h =
    let e : bound ≡ more = cc in
    ([], sym e ∙ sym (append-nil bound))

pub extends_on : (bound mid more : Bindings) → Extends bound mid → Extends mid more → Extends bound more
extends_on bound mid more a c = (a.0 ++ c.0, c.1 ∙ (ap (λ b. b ++ c.0) a.1 ∙ append_assoc bound a.0 c.0))

each_keeps : (ps : List TakesApart) → EachKeeps ps → (vs : List Value) (bound more : Bindings) → apart_each ps vs bound ≡ Some more → Extends bound more
each_keeps [] each [] bound more h = same_extends bound more h
each_keeps [] each (v ∷ vs) bound more h = absurd (cc)
each_keeps (p ∷ ps) each [] bound more h = absurd (cc)
each_keeps (p ∷ ps) each (v ∷ vs) bound more h = behind (p v bound) refl h (λ mid. each_keeps ps each.1 vs mid more)
  where
    behind : (o : Option Bindings) → p v bound ≡ o → and_then o (apart_each ps vs) ≡ Some more → ((mid : Bindings) → apart_each ps vs mid ≡ Some more → Extends mid more) → Extends bound more
    behind None e h rest = absurd (cc)
    behind (Some mid) e h rest = extends_on bound mid more (each.0 v bound mid e) (rest mid h)

if_like : (b : Bool) (bound more : Bindings) → (if b then Some bound else None) ≡ Some more → Extends bound more
if_like true bound more h = same_extends bound more h
if_like false bound more h = absurd (cc)

tuple_keeps : (ps : List TakesApart) → EachKeeps ps → (o : Option (List Value)) (bound more : Bindings) → and_then o (λ vs. apart_each ps vs bound) ≡ Some more → Extends bound more
tuple_keeps ps each None bound more h = absurd (cc)
tuple_keeps ps each (Some vs) bound more h = each_keeps ps each vs bound more h

abbrev Kept : Type 0
Kept = (s : Shape) × KeepsPrefix (taken_apart s)

all_keep : (ks : List Kept) → EachKeeps (map taken_apart (map (λ (k : Kept). k.0) ks))
all_keep [] = tt
all_keep (k ∷ ks) = (k.1, all_keep ks)

layer_keeps : (x : Shape-F Kept) → KeepsPrefix (shape_step (map-Shape Shape TakesApart taken_apart (map-Shape Kept Shape (λ (k : Kept). k.0) x)))
layer_keeps Shape-F.Wild v bound more h = same_extends bound more h
layer_keeps Shape-F.Bound v bound more h =
    let e : bound ++ v ∷ [] ≡ more = cc in
    (v ∷ [], sym e)
layer_keeps (Shape-F.Equal w) v bound more h = if_like (is_like w v) bound more h
layer_keeps (Shape-F.Tuple ks) v bound more h = tuple_keeps (map taken_apart (map (λ (k : Kept). k.0) ks)) (all_keep ks) (tuple_values_step (out-Value v)) bound more h

pub shape_keeps : (s : Shape) → KeepsPrefix (taken_apart s)
shape_keeps = ind-Shape (λ s. KeepsPrefix (taken_apart s)) (λ x y is. subst (λ z. KeepsPrefix (taken_apart (roll-Shape z))) is
    (subst KeepsPrefix (sym (fold-roll-Shape TakesApart shape_step (map-Shape Kept Shape (λ (k : Kept). k.0) y))) (layer_keeps y)))

pub first_keeps : (ss : List Shape) (v : Value) (bound more : Bindings) → first_apart ss v bound ≡ Some more → Extends bound more
first_keeps [] v bound more h = absurd (cc)
first_keeps (s ∷ ss) v bound more h = by (taken_apart s v bound) refl h (first_keeps ss v bound more)
  where
    by : (o : Option Bindings) → taken_apart s v bound ≡ o → or_else o (first_apart ss v bound) ≡ Some more → (first_apart ss v bound ≡ Some more → Extends bound more) → Extends bound more
    by None e h rest = rest h
    by (Some inner) e h rest =
        let same : inner ≡ more = cc in
        shape_keeps s v bound more (e ∙ ap Some same)

pub take_prefix : {A : Type 0} (xs ys : List A) → take (length xs) (xs ++ ys) ≡ xs
take_prefix [] ys = refl
take_prefix (x ∷ xs) ys = ap (λ zs. x ∷ zs) (take_prefix xs ys)

-- what was bound before is left where only as many are
pub prefix_left : (bound more : Bindings) → Extends bound more → take (length bound) more ≡ bound
prefix_left bound more e = ap (λ b. take (length bound) b) e.1 ∙ take_prefix bound e.0
