use Rattle.std.proofs.lemmas.Result.{IfOk-weaker}
use Rattle.ir_rebuild.proofs.OnPutting.OnKinds.{update_put}
use Rattle.ir_rebuild.proofs.putting.nodes.Nodes.update.Goals as goal

pub returns : goal.returns
returns c = IfOk-weaker c.put.result _ _ (λ o p. update_put c.args.self.now c.put.new.self c.args.a c.args.index c.args.element o c.in_ok-ty.ty c.in_ok-ty.ensures p) c.put.ensures
