use Rattle.std.proofs.Common.{arith}
use Rattle.dslx_check_leaves.proofs.OnNamed.OnConstants.{bound_next}
use Rattle.dslx_check_leaves.proofs.named.constants.constant_scope.Goals as goal

pub parametrics-preserved : goal.parametrics-preserved
parametrics-preserved c =
    bound_next c.args.s.now c.parametrics.i c.parametrics.scope c.bind_arg.new.scope (omega (arith, c.parametrics-test.true, c.len-i-end.ensures)) c.in_ok-bind_arg.ensures c.parametrics.invariant
