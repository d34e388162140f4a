use Rattle.std.proofs.Common.{refl}
use Rattle.ir_rebuild.proofs.OnPutting.Putting.{puts}
use Rattle.ir_rebuild.proofs.putting.nodes.Nodes.put.Goals as goal

pub returns : goal.returns
returns c = puts c.append.result c.args.self.now _ c.args.ty c.args.op c.args.operands.now c.in_ok-operands.operands c.args.attributes c.in_ok-operands.ensures refl c.append.ensures.nodes c.append.ensures.operand
