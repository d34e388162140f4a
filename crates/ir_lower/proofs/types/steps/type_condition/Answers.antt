use Rattle.xb_value.specs.declared.ty.Ty as ty
use Rattle.ir_lower_nodes.specs.Exprs.NodeTypes.{node_type}
use Rattle.ir_lower.specs.Types.Signatures.{call_types}
use Rattle.ir_lower.proofs.OnTypes.OnBound.{same_alike}
use Rattle.ir_lower.proofs.OnTypes.OnSteps.{on_ok}
use Rattle.ir_lower.proofs.types.steps.type_condition.Goals as goal

pub returns-clause-ty : goal.returns-clause-ty
returns-clause-ty c =
    on_ok c.is_same.result _ _ (λ same. same_alike (ty.Bits 1) c.in_ok-ty.ty (node_type c.args.condition.now (call_types c.args.signatures.now) c.args.bound.now.items) same c.in_ok-ty.ensures.ty) c.is_same.ensures

pub returns-clause-kept : goal.returns-clause-kept
returns-clause-kept c = on_ok c.is_same.result _ _ (λ same. c.in_ok-ty.ensures.kept) c.is_same.ensures
