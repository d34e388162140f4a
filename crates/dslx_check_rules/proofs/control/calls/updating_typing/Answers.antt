use Rattle.std.proofs.Common.{arith}
use Rattle.dslx_check_rules.proofs.OnControl.OnCalls.{updating_other, updating_three}
use Rattle.dslx_check_rules.proofs.control.calls.updating_typing.Goals as goal

pub returns-in-len3 : goal.returns-in-len3
returns-in-len3 c =
    updating_three c.args.span c.args.types.now c.args.types.now c.args.operands.now c.updated_typing.result _ _ _ c.in-len3.len_at_least c.in-len3.len_below c.updated_typing.ensures

pub returns-in-empty : goal.returns-in-empty
returns-in-empty c =
    updating_other c.args.span c.args.types.now c.args.types.now c.args.operands.now c.wrong_operands_typing.result (λ e. absurd (omega (arith, e))) c.wrong_operands_typing.ensures

pub returns-in-len1 : goal.returns-in-len1
returns-in-len1 c =
    updating_other c.args.span c.args.types.now c.args.types.now c.args.operands.now c.wrong_operands_typing-in-len1.result (λ e. absurd (omega (arith, e))) c.wrong_operands_typing-in-len1.ensures

pub returns-in-len2 : goal.returns-in-len2
returns-in-len2 c =
    updating_other c.args.span c.args.types.now c.args.types.now c.args.operands.now c.wrong_operands_typing-in-len2.result (λ e. absurd (omega (arith, e))) c.wrong_operands_typing-in-len2.ensures

pub returns-in-len4-up : goal.returns-in-len4-up
returns-in-len4-up c =
    updating_other c.args.span c.args.types.now c.args.types.now c.args.operands.now c.wrong_operands_typing-in-len4-up.result (λ e. absurd (omega (arith, e))) c.wrong_operands_typing-in-len4-up.ensures
