use Rattle.std.proofs.Common.{◌≡◌, take}
use Rattle.dslx_core.specs.Lowering.Lowering.{types_of_lowered}
use Rattle.dslx_core_exprs.proofs.aggregates.parts.types_of.Given as goal

abbrev pub invariant-exprs : goal.invariant-exprs
invariant-exprs l = l.types.items ≡ types_of_lowered (take l.expr-index l.exprs)
