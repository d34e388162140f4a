use Rattle.std.proofs.lemmas.Result.{IfOk-weaker}
use Rattle.ir_rebuild.proofs.OnPutting.OnKinds.{compare_put}
use Rattle.ir_rebuild.proofs.putting.nodes.Nodes.compare.Goals as goal

pub returns : goal.returns
returns c = IfOk-weaker c.put.result _ _ (λ o p. compare_put c.args.self.now c.put.new.self c.args.op c.args.a c.args.b o c.bits_type-ty.result c.bits_type-ty.ensures p) c.put.ensures
