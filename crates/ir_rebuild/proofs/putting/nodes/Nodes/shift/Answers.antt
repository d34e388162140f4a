use Rattle.std.proofs.lemmas.Result.{IfOk-weaker}
use Rattle.ir_rebuild.proofs.OnPutting.OnKinds.{shift_put}
use Rattle.ir_rebuild.proofs.putting.nodes.Nodes.shift.Goals as goal

pub returns : goal.returns
returns c = IfOk-weaker c.put.result _ _ (λ o p. shift_put c.args.self.now c.put.new.self c.args.op c.args.a c.args.amount o c.in_ok-ty.ty c.in_ok-ty.ensures p) c.put.ensures
