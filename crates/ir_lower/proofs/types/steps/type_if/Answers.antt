use Rattle.std.proofs.Common.{None, ◌∙◌, ap}
use Rattle.ir_lower_nodes.specs.Steps.StepTypes.{under_node_condition}
use Rattle.ir_lower.specs.Types.Signatures.{call_types}
use Rattle.ir_lower.proofs.OnTypes.OnSteps.{condition_so, on_ok}
use Rattle.ir_lower.proofs.types.steps.type_if.Goals as goal

pub returns-in-Some-clause-ty : goal.returns-in-Some-clause-ty
returns-in-Some-clause-ty c =
    on_ok c.type_condition.result _ _
    (λ h o. ap (λ x. under_node_condition (call_types c.args.signatures.now) c.args.bound.now.items x o) c.in-Some.is ∙ condition_so (call_types c.args.signatures.now) (λ k. None) c.in-Some.condition c.args.bound.now.items o h)
    c.type_condition.ensures.ty
