-- What is inferred past the last argument.
use Rattle.std.proofs.Common.{◌≡◌, ℕ, zero, suc, ◌≤◌, min, List, [], ◌∷◌, length, drop, map, refl, arith}
use Rattle.dslx_tree.specs.declared.item.Field.{Field}
use Rattle.dslx_tree.specs.declared.type_expr.TypeExpr.{TypeExpr}
use Rattle.dslx_meaning.specs.Inference.{Infers, infer_each, inferred_in}
use Rattle.dslx_meaning.specs.Items.{inferred_from}
use Rattle.dslx_meaning.specs.declared.ty.DslxType.{DslxType}

nothing_beside : (fs : List Infers) → infer_each fs [] ≡ []
nothing_beside [] = refl
nothing_beside (f ∷ fs) = refl

pub each_ended : (ps : List TypeExpr) (ts : List DslxType) (i : ℕ) → min (length ps) (length ts) ≤ i → infer_each (map inferred_in (drop i ps)) (drop i ts) ≡ []
each_ended [] ts zero h = refl
each_ended [] ts (suc i) h = refl
each_ended (p ∷ ps) [] zero h = refl
each_ended (p ∷ ps) [] (suc i) h = nothing_beside (map inferred_in (drop i ps))
each_ended (p ∷ ps) (t ∷ ts) zero h = let none : ⊥ = omega arith in absurd none
each_ended (p ∷ ps) (t ∷ ts) (suc i) h = let before : min (length ps) (length ts) ≤ i = omega arith in each_ended ps ts i before

nothing_from : (fs : List Field) → inferred_from fs [] ≡ []
nothing_from [] = refl
nothing_from (f ∷ fs) = refl

pub all_ended : (fs : List Field) (ts : List DslxType) (i : ℕ) → min (length fs) (length ts) ≤ i → inferred_from (drop i fs) (drop i ts) ≡ []
all_ended [] ts zero h = refl
all_ended [] ts (suc i) h = refl
all_ended (f ∷ fs) [] zero h = refl
all_ended (f ∷ fs) [] (suc i) h = nothing_from (drop i fs)
all_ended (f ∷ fs) (t ∷ ts) zero h = let none : ⊥ = omega arith in absurd none
all_ended (f ∷ fs) (t ∷ ts) (suc i) h = let before : min (length fs) (length ts) ≤ i = omega arith in all_ended fs ts i before
