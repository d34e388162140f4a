use Rattle.std.proofs.Common.{ap, ◌∙◌}
use Rattle.std.proofs.lemmas.Result.{IfOk-weaker}
use Rattle.ir_rebuild.specs.Putting.Types.{element_of}
use Rattle.ir_rebuild.proofs.OnPutting.OnKinds.{index_put}
use Rattle.ir_rebuild.proofs.putting.nodes.Nodes.index.Goals as goal

pub returns : goal.returns
returns c = IfOk-weaker c.put.result _ _ (λ o p. index_put c.args.self.now c.put.new.self c.args.a c.args.index o c.in_ok-ty.ty (c.in_ok-ty.ensures ∙ ap element_of c.in_ok-array.ensures) p) c.put.ensures
