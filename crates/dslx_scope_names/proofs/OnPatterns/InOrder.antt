-- Parts, alternatives and names, one after another.
use Rattle.std.proofs.Common.{◌≡◌, ℕ, suc, List, [], ◌∷◌, ◌++◌, Option, Some, None, length, refl, ap}
use Rattle.std.specs.Prelude.{◌≢◌}
use Rattle.dslx_meaning.specs.Lists.{and_then}
use Rattle.dslx_meaning.specs.declared.ty.DslxType.{DslxType}
use Rattle.dslx_core.specs.declared.expr.Shape.{Shape}
use Rattle.dslx_core.specs.Lowering.CoreScopes.{CoreScope}
use Rattle.dslx_core.specs.Lowering.Patterns.{LoweredShape, LoweredShapes, PatternLowering, parts_shaped}

-- with these shapes before them
abbrev pub behind_shapes : List Shape → Option LoweredShapes → Option LoweredShapes
behind_shapes shapes o = and_then o (λ (r : LoweredShapes). Some (record { shapes = shapes ++ r.shapes; scope = r.scope }))

pub lengths_differ : (ps : List PatternLowering) (ts : List DslxType) (outer scope : CoreScope) → length ps ≢ length ts → parts_shaped ps ts outer scope ≡ None
lengths_differ [] [] outer scope other = absurd (other refl)
lengths_differ [] (t ∷ ts) outer scope other = refl
lengths_differ (p ∷ ps) [] outer scope other = refl
lengths_differ (p ∷ ps) (t ∷ ts) outer scope other = by (p.lower outer scope t) (λ s. lengths_differ ps ts outer s.scope (λ e. other (ap suc e)))
  where
    by : (o : Option LoweredShape) → ((s : LoweredShape) → parts_shaped ps ts outer s.scope ≡ None)
        → and_then o (λ s. and_then {B = LoweredShapes} (parts_shaped ps ts outer s.scope) (λ r. Some (record { shapes = s.shape ∷ r.shapes; scope = r.scope }))) ≡ None
    by None rest = refl
    by (Some s) rest = ap (λ (q : Option LoweredShapes). and_then {B = LoweredShapes} q (λ r. Some (record { shapes = s.shape ∷ r.shapes; scope = r.scope }))) (rest s)
