use Rattle.dslx_check_uses.proofs.OnCallees.{right_from}
use Rattle.dslx_check_uses.proofs.calls.right_call.Goals as goal

pub returns : goal.returns
returns c = right_from c.in_ok-args.ensures c.in_ok-size.ensures c.in_ok-signature.ensures c.callee_parts-parts.ensures c.given_faults-faults.ensures c.right_call_typing.ensures
