use Rattle.std.proofs.Common.{◌≡◌, ◌+◌, ◌++◌, drop}
use Rattle.dslx_core.specs.Lowering.Trees.{slots_from}
use Rattle.dslx_core_exprs.proofs.aggregates.filled.slots_from.Given as goal

abbrev pub invariant-exprs : goal.invariant-exprs
invariant-exprs l = l.slots.items ++ slots_from (l.first + l.i) (drop l.i l.exprs) ≡ slots_from l.first l.exprs
