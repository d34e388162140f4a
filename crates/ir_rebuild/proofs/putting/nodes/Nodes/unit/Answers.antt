use Rattle.std.proofs.lemmas.Result.{IfOk-weaker}
use Rattle.ir_rebuild.proofs.OnPutting.OnKinds.{unit_put}
use Rattle.ir_rebuild.proofs.putting.nodes.Nodes.unit.Goals as goal

pub returns : goal.returns
returns c = IfOk-weaker c.put.result _ _ (λ o p. unit_put c.args.self.now c.put.new.self o c.unit_type-ty.result c.unit_type-ty.ensures p) c.put.ensures
