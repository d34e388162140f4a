use Rattle.std.proofs.Common.{◌∷◌, subst, []}
use Rattle.std.proofs.lemmas.Result.{IfOk-weaker}
use Rattle.delay_model.specs.declared.op.Op.TheVariants as op
use Rattle.ir_tree.specs.declared.node.Attributes.TheVariants as attributes
use Rattle.ir_rebuild.specs.Putting.Given.{node_with, PutsNode}
use Rattle.ir_rebuild.proofs.OnPutting.OnKinds.{element_put}
use Rattle.ir_rebuild.proofs.putting.nodes.Nodes.element.Goals as goal

pub returns : goal.returns
returns c =
    IfOk-weaker c.put.result _ _
    (λ o p. element_put c.args.self.now c.put.new.self c.args.a o c.args.number c.in_ok-ty.ty c.in_ok-ty.ensures
    (subst (λ k. PutsNode c.args.self.now c.put.new.self (node_with c.in_ok-ty.ty op.TupleIndex (c.args.a ∷ []) (attributes.Index k)) o) c.from.ensures p))
    c.put.ensures
