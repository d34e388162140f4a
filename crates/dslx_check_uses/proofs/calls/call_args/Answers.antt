use Rattle.std.proofs.Common.{◌∙◌}
use Rattle.dslx_check_uses.proofs.OnCallees.{call_args_from}
use Rattle.dslx_check_uses.proofs.calls.call_args.Goals as goal

pub returns : goal.returns
returns c = call_args_from c.args.function.now c.args.given.now c.args.operands.now _ _ _ c.as_slice.ensures c.as_slice-parametrics.ensures (c.as_slice-2.ensures.value ∙ c.in_ok-types.ensures) c.in_ok-found.ensures.numbers c.in_ok-found.ensures.maybe c.in_ok-args.ensures
