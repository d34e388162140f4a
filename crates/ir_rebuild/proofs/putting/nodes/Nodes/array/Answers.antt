use Rattle.std.proofs.Common.{ap, ◌∙◌}
use Rattle.std.proofs.lemmas.Result.{IfOk-weaker}
use Rattle.ir_rebuild.specs.Putting.Given.{type_at}
use Rattle.ir_rebuild.proofs.OnPutting.OnKinds.{array_put}
use Rattle.ir_rebuild.proofs.putting.nodes.Nodes.array.Goals as goal

pub returns : goal.returns
returns c =
    IfOk-weaker c.put.result _ _
    (λ o p. array_put c.args.self.now c.put.new.self c.args.operands.now o c.in_ok-element.element c.in_ok-ty.ty (c.in_ok-element.ensures ∙ ap (type_at c.args.self.now) c.first_of.ensures) c.in_ok-ty.ensures p)
    c.put.ensures
