use Rattle.std.proofs.Common.{◌∙◌, ap, sym}
use Rattle.std.proofs.lemmas.Result.{IfOk-weaker}
use Rattle.dslx_meaning.specs.Rules.RuleNumbers as rule
use Rattle.dslx_meaning.specs.Rules.TypeEnvs.{breaks_if}
use Rattle.dslx_check_rules.specs.Seen.{seen}
use Rattle.dslx_check_uses.proofs.OnCallees.{none_called, one_called, right_count, wrongly_called}
use Rattle.dslx_check_uses.proofs.calls.call_of.Goals as goal

pub returns-in-None : goal.returns-in-None
returns-in-None c = none_called c.args.span c.args.name.now c.in-None.ensures c.undeclared_call.ensures

pub returns-then-is_right : goal.returns-then-is_right
returns-then-is_right c =
    let right = sym c.has_right_count-is_right.ensures ∙ c.if-is_right.true in
    IfOk-weaker c.right_call.result _ _ (λ j g. one_called c.args.name.now c.in-Some.ensures c.is_cyclic-is_cyclic.ensures c.both-is_hidden.ensures right (right_count _ _ _ right) g) c.right_call.ensures

pub returns-else-is_right : goal.returns-else-is_right
returns-else-is_right c =
    let wrong = sym c.has_right_count-is_right.ensures ∙ c.if-is_right.false in
    wrongly_called c.args.span c.args.name.now c.in-Some.ensures wrong (c.breaks_if-cyclic.ensures ∙ ap (λ b. seen (breaks_if b rule.NO_ITEM_REACHES_ITSELF c.args.span)) c.is_cyclic-is_cyclic.ensures) c.refused_call.ensures
