use Rattle.std.proofs.Common.{◌≡◌, ◌++◌}
use Rattle.dslx_meaning.specs.Lists.{repeated}
use Rattle.dslx_core.specs.declared.expr.CoreExpr as core
use Rattle.dslx_core_exprs.proofs.aggregates.filled.push_slots.Given as goal

abbrev pub invariant-times : goal.invariant-times
invariant-times l = l.slots ≡ l.initial.slots ++ repeated l.counter (core.Slot l.slot)
