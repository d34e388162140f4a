use Rattle.block_build.proofs.OnNetlist.OnPure.{extend_put, extend_none}
use Rattle.block_build.proofs.netlist.nodes.extended.Goals as goal

pub returns-in-Extend : goal.returns-in-Extend
returns-in-Extend c = extend_put c.extend.result c.args.wires.now c.extend.new.wires c.args.scope c.args.op c.in-Extend.operation c.args.operands.now c.args.width c.in-Extend.is c.extend.ensures

pub returns-in_default : goal.returns-in_default
returns-in_default c = extend_none c.args.wires.now c.args.scope c.args.op c.args.operands.now c.args.width c.new.result c.in_default.not-Extend
