use Rattle.std.proofs.Common.{◌∙◌, ◌+◌, ◌++◌, [], ◌∷◌, refl, sym, ap, take}
use Rattle.std.proofs.lemmas.List.{take_all, take_more}
use Rattle.ir_lower_nodes.specs.Steps.StepTypes.{steps_node_bind}
use Rattle.ir_lower.specs.Types.Signatures.{call_types}
use Rattle.ir_lower.specs.Types.Words.{word_at}
use Rattle.ir_lower.proofs.OnTypes.OnSteps.{steps_more}
use Rattle.ir_lower.proofs.types.steps.bind_steps.Goals as goal

pub steps-init : goal.steps-init
steps-init c = refl

pub steps-preserved : goal.steps-preserved
steps-preserved c =
    steps_more (call_types c.args.signatures.now) (word_at c.args.words.now) (take c.steps.step-index c.args.steps.now) (take (c.steps.step-index + 1) c.args.steps.now) c.step-item.result c.args.bound.now.items c.steps.bound.items c.bind_step.new.bound.items
    (take_more c.args.steps.now c.steps.step-index c.step-item.result c.steps-test.true ∙ ap (λ x. take c.steps.step-index c.args.steps.now ++ x ∷ []) (sym c.step-item.is)) c.steps.invariant c.in_ok-bind_step.ensures

pub returns : goal.returns
returns c = ap (λ ss. steps_node_bind (call_types c.args.signatures.now) (word_at c.args.words.now) ss c.args.bound.now.items) (sym (take_all c.steps.step-index c.args.steps.now c.steps-test.false)) ∙ c.steps.invariant
