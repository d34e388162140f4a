use Rattle.std.proofs.Common.{sym, ap, ◌∙◌}
use Rattle.std.proofs.lemmas.Result.{IfOk-weaker}
use Rattle.ir_lower_nodes.specs.Exprs.NodeTypes.{if_node}
use Rattle.ir_lower.specs.Types.Signatures.{call_types}
use Rattle.ir_lower.proofs.types.exprs.called.Goals as goal

pub returns-in-Some : goal.returns-in-Some
returns-in-Some c =
    IfOk-weaker c.copied.result _ _
    (λ t h. ap if_node (ap (call_types c.args.signatures.now c.args.number) (sym c.as_slice.ensures.value) ∙ c.in-Some.ensures) ∙ h)
    c.copied.ensures
