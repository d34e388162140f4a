use Rattle.std.proofs.Common.{◌≡◌, map}
use Rattle.dslx_core.specs.Lowering.Patterns.{LoweredArm}
use Rattle.dslx_core_exprs.proofs.calls.matches.without_types.Given as goal

abbrev pub invariant-arms : goal.invariant-arms
invariant-arms l = l.cores.items ≡ map (λ (a : LoweredArm). a.arm) l.yielded
