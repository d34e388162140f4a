use Rattle.std.proofs.lemmas.Result.{IfOk-weaker}
use Rattle.ir_rebuild.proofs.OnPutting.OnKinds.{choose_put}
use Rattle.ir_rebuild.proofs.putting.nodes.Nodes.choose.Goals as goal

pub returns : goal.returns
returns c = IfOk-weaker c.put.result _ _ (λ o p. choose_put c.args.self.now c.put.new.self c.args.bit c.args.one c.args.zero o c.in_ok-ty.ty c.in_ok-cases.cases c.in_ok-ty.ensures c.in_ok-cases.ensures p) c.put.ensures
