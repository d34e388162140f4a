use Rattle.std.proofs.Common.{◌≡◌}
use Rattle.dslx_core.specs.Lowering.Lowering.{cores_of}
use Rattle.dslx_core_exprs.proofs.aggregates.parts.cores_of.Given as goal

abbrev pub invariant-exprs : goal.invariant-exprs
invariant-exprs l = l.cores.items ≡ cores_of l.yielded
