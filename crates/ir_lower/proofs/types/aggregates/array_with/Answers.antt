use Rattle.std.proofs.Common.{◌∙◌, Some, ap, sym}
use Rattle.std.proofs.lemmas.Result.{IfOk-weaker}
use Rattle.xb_value.specs.declared.ty.Ty as ty
use Rattle.dslx_meaning.specs.Lists.{and_then}
use Rattle.ir_lower_nodes.specs.Exprs.NodeTypes.{if_node}
use Rattle.ir_lower.proofs.OnTypes.OnSame.{same_alike}
use Rattle.ir_lower.proofs.types.aggregates.array_with.Goals as goal

pub returns-in_ok-element : goal.returns-in_ok-element
returns-in_ok-element c =
    IfOk-weaker c.within.result _ _
    (λ t h. ap (λ o. if_node (and_then o (λ u. Some (ty.Array c.args.element.now c.args.count)))) (same_alike c.args.element.now c.args.value.now (c.is.ensures.0 c.if-is.true))
    ∙ (ap (λ x. if_node (Some (ty.Array x c.args.count))) (sym (c.in_ok-element.ensures ∙ c.in_ok-copy.ensures)) ∙ h))
    c.within.ensures
