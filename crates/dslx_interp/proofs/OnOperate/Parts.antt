-- Values that are taken apart, each by its own shape.
use Rattle.std.proofs.Common.{◌≡◌, suc, List, [], ◌∷◌, length, map, Option, Some, None, refl, ap}
use Rattle.xb_value.specs.declared.value.Value.{Value}
use Rattle.dslx_meaning.specs.Lists.{and_then}
use Rattle.dslx_core.specs.CoreValues.{Bindings, TakesApart, apart_each, taken_apart}
use Rattle.dslx_core.specs.declared.expr.Shape.{Shape}
use Rattle.dslx_interp.specs.Eval.Inner.Direct.{two_apart}

-- another number of values doesn't fit
pub unfitting : (ps : List TakesApart) (vs : List Value) (bound : Bindings) → (length ps ≡ length vs → ⊥) → apart_each ps vs bound ≡ None
unfitting [] [] bound other = absurd (other refl)
unfitting [] (v ∷ vs) bound other = refl
unfitting (p ∷ ps) [] bound other = refl
unfitting (p ∷ ps) (v ∷ vs) bound other = behind (p v bound) (λ more. unfitting ps vs more (λ e. other (ap suc e)))
  where
    behind : (o : Option Bindings) → ((more : Bindings) → apart_each ps vs more ≡ None) → and_then o (apart_each ps vs) ≡ None
    behind None rest = refl
    behind (Some more) rest = rest more

abbrev nothing : Option Bindings
nothing = None

none_behind : (o : Option Bindings) → and_then o (λ (b : Bindings). nothing) ≡ nothing
none_behind None = refl
none_behind (Some b) = refl

same_behind : (o : Option Bindings) → and_then o (apart_each [] []) ≡ o
same_behind None = refl
same_behind (Some b) = refl

-- two values, each by its own shape
pub two_by_two : (shapes : List Shape) (v w : Value) (bound : Bindings) → apart_each (map taken_apart shapes) (v ∷ w ∷ []) bound ≡ two_apart shapes v w bound
two_by_two [] v w bound = refl
two_by_two (p ∷ []) v w bound = none_behind (taken_apart p v bound)
two_by_two (p ∷ q ∷ []) v w bound = by (taken_apart p v bound)
  where
    by : (o : Option Bindings) → and_then o (apart_each (taken_apart q ∷ []) (w ∷ [])) ≡ and_then o (taken_apart q w)
    by None = refl
    by (Some b) = same_behind (taken_apart q w b)
two_by_two (p ∷ q ∷ r ∷ ps) v w bound = by (taken_apart p v bound)
  where
    by : (o : Option Bindings) → and_then o (apart_each (taken_apart q ∷ map taken_apart (r ∷ ps)) (w ∷ [])) ≡ None
    by None = refl
    by (Some b) = none_behind (taken_apart q w b)
