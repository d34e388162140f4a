use Rattle.std.proofs.Common.{◌≡◌}
use Rattle.dslx_check_leaves.proofs.OnNamed.OnConstants.{first_args}
use Rattle.dslx_check_leaves.proofs.named.constants.constant_scope.Given as goal

abbrev pub invariant-parametrics : goal.invariant-parametrics
invariant-parametrics l = l.scope ≡ first_args l.s l.i
