use Rattle.std.proofs.lemmas.Result.{IfOk-weaker}
use Rattle.ir_rebuild.proofs.OnPutting.OnKinds.{tuple_put}
use Rattle.std.proofs.Common.{ap₂}
use Rattle.ir_tree.specs.declared.ir_type.IrType.{Tuple}
use Rattle.ir_rebuild.proofs.putting.nodes.Nodes.tuple.Goals as goal

pub returns : goal.returns
returns c = IfOk-weaker c.put.result _ _ (λ o p. tuple_put c.args.self.now c.put.new.self c.args.operands.now o c.in_ok-types.types.items _ c.in_ok-types.ensures (ap₂ Tuple c.from_vec.ensures c.new.ensures) p) c.put.ensures
