use Rattle.std.proofs.lemmas.Result.{IfOk-weaker}
use Rattle.ir_rebuild.proofs.OnPutting.OnKinds.{number_put}
use Rattle.ir_rebuild.proofs.putting.nodes.Nodes.number.Goals as goal

pub returns : goal.returns
returns c = IfOk-weaker c.put.result _ _ (λ o p. number_put c.args.self.now c.put.new.self c.args.width c.args.number o c.bits_type-ty.result c.bits_type-ty.ensures p) c.put.ensures
