use Rattle.std.proofs.Common.{arith}
use Rattle.std.proofs.lemmas.Result.{IfOk-weaker}
use Rattle.base.proofs.Lemmas.Lists.Prefixes.{IsPrefix-refl}
use Rattle.dslx_check_rules.proofs.OnControl.OnCalls.{counting_one, counting_other}
use Rattle.dslx_check_rules.proofs.control.calls.counting_typing.Goals as goal

pub returns-in-len1-clause-typed : goal.returns-in-len1-clause-typed
returns-in-len1-clause-typed c =
    IfOk-weaker c.counted_typing.result _ _
    (λ j h. counting_one c.args.span c.args.types.now c.counted_typing.new.types c.args.operands.now j c.args.gives_bool _ c.in-len1.len_at_least c.in-len1.len_below h) c.counted_typing.ensures.typed

pub returns-in-empty-clause-typed : goal.returns-in-empty-clause-typed
returns-in-empty-clause-typed c =
    counting_other c.args.span c.args.types.now c.args.types.now c.args.operands.now c.wrong_operands_typing.result c.args.gives_bool (λ e. absurd (omega (arith, e))) c.wrong_operands_typing.ensures

pub returns-in-empty-clause-grows : goal.returns-in-empty-clause-grows
returns-in-empty-clause-grows c = IsPrefix-refl c.args.types.now

pub returns-in-len2-up-clause-typed : goal.returns-in-len2-up-clause-typed
returns-in-len2-up-clause-typed c =
    counting_other c.args.span c.args.types.now c.args.types.now c.args.operands.now c.wrong_operands_typing-in-len2-up.result c.args.gives_bool (λ e. absurd (omega (arith, e)))
    c.wrong_operands_typing-in-len2-up.ensures

pub returns-in-len2-up-clause-grows : goal.returns-in-len2-up-clause-grows
returns-in-len2-up-clause-grows c = IsPrefix-refl c.args.types.now
