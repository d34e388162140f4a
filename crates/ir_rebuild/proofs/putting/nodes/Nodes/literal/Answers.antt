use Rattle.std.proofs.lemmas.Result.{IfOk-weaker}
use Rattle.ir_rebuild.proofs.OnPutting.OnKinds.{literal_put}
use Rattle.ir_rebuild.proofs.putting.nodes.Nodes.literal.Goals as goal

pub returns : goal.returns
returns c = IfOk-weaker c.put.result _ _ (λ o p. literal_put c.args.self.now c.put.new.self o c.args.ty c.args.constant p) c.put.ensures
