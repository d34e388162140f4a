use Rattle.std.proofs.Common.{◌≡◌, map, take}
use Rattle.dslx_core.specs.declared.expr.Shape as shape
use Rattle.dslx_core.specs.Lowering.Lowering.{LoweredExpr}
use Rattle.dslx_core_exprs.proofs.aggregates.filled.bound_shapes.Given as goal

abbrev pub invariant-exprs : goal.invariant-exprs
invariant-exprs l = l.shapes.items ≡ map (λ (e : LoweredExpr). shape.Bound) (take l.index l.exprs)
