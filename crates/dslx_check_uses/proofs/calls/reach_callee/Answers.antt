use Rattle.std.proofs.Common.{◌∙◌, ◌++◌, ap, sym}
use Rattle.std.proofs.lemmas.Result.{IfOk-weaker}
use Rattle.dslx_check_facts.specs.Walks.{shown}
use Rattle.dslx_check_uses.proofs.OnCallees.{none_cyclic, none_known, none_wrong, one_known}
use Rattle.dslx_check_uses.proofs.calls.reach_callee.Goals as goal

pub returns-then-is_cyclic : goal.returns-then-is_cyclic
returns-then-is_cyclic c = none_cyclic c.if-is_cyclic.true

pub returns-then-is_wrong : goal.returns-then-is_wrong
returns-then-is_wrong c = none_wrong c.if-is_cyclic.false c.if-is_wrong.true

pub returns-in-None : goal.returns-in-None
returns-in-None c =
    none_known c.if-is_cyclic.false c.if-is_wrong.false
    (c.in_ok-reach_all.ensures ∙ ap (λ l. record (shown c.args.w.now) { reached = (shown c.args.w.now).reached ++ l }) c.as_slice.ensures.value) (sym c.in-None.is ∙ c.in_ok-all.ensures)

pub returns-in-Some : goal.returns-in-Some
returns-in-Some c =
    IfOk-weaker c.reach_instance.result _ _ (λ size g. one_known c.if-is_cyclic.false c.if-is_wrong.false
    (c.in_ok-reach_all.ensures ∙ ap (λ l. record (shown c.args.w.now) { reached = (shown c.args.w.now).reached ++ l }) c.as_slice.ensures.value) (sym c.in-Some.is ∙ c.in_ok-all.ensures) g) c.reach_instance.ensures
