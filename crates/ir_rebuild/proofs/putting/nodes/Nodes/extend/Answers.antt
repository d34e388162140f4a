use Rattle.std.proofs.lemmas.Result.{IfOk-weaker}
use Rattle.ir_rebuild.proofs.OnPutting.OnKinds.{extend_put}
use Rattle.ir_rebuild.proofs.putting.nodes.Nodes.extend.Goals as goal

pub returns : goal.returns
returns c = IfOk-weaker c.put.result _ _ (λ o p. extend_put c.args.self.now c.put.new.self c.args.op c.args.a o c.args.width c.bits_type-ty.result c.bits_type-ty.ensures p) c.put.ensures
