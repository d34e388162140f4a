use Rattle.std.proofs.Common.{◌∙◌, ◌+◌, ◌++◌, [], ◌∷◌, sym, ap, subst, take}
use Rattle.std.proofs.lemmas.List.{take_all, take_more}
use Rattle.ir_lower_nodes.specs.Steps.Steps.{StepsLower}
use Rattle.ir_lower_nodes.proofs.OnSteps.OnLists.{steps_none, steps_more}
use Rattle.ir_lower_nodes.proofs.steps.steps.lower_steps.Goals as goal

pub steps-init : goal.steps-init
steps-init c = steps_none c.args.functions.now c.args.channels.now c.args.slots.now.items c.args.nodes.now c.args.token

pub steps-preserved : goal.steps-preserved
steps-preserved c =
    steps_more c.args.functions.now c.args.channels.now (take c.steps.step-index c.args.steps.now) (take (c.steps.step-index + 1) c.args.steps.now) c.step-item.result c.args.slots.now.items c.steps.slots.items c.lower_step.new.slots.items c.args.nodes.now c.steps.nodes c.lower_step.new.nodes c.args.token c.steps.last _
    (take_more c.args.steps.now c.steps.step-index c.step-item.result c.steps-test.true ∙ ap (λ x. take c.steps.step-index c.args.steps.now ++ x ∷ []) (sym c.step-item.is)) c.steps.invariant c.in_ok-last.ensures

pub returns : goal.returns
returns c = subst (λ ss. StepsLower c.args.functions.now c.args.channels.now ss c.args.slots.now.items c.steps.slots.items c.args.nodes.now c.steps.nodes c.args.token c.steps.last) (take_all c.steps.step-index c.args.steps.now c.steps-test.false) c.steps.invariant
