use Rattle.delay_model.specs.declared.op.Op.TheVariants as op
use Rattle.block_build.proofs.OnNetlist.OnPure.{index_put, index_none}
use Rattle.block_build.proofs.netlist.nodes.indexed.Goals as goal

pub returns-in-ArrayIndex : goal.returns-in-ArrayIndex
returns-in-ArrayIndex c = index_put c.element.result c.args.wires.now c.element.new.wires c.args.scope c.args.op op.ArrayIndex c.args.operands.now c.args.index c.args.ty.now c.in-ArrayIndex.is c.element.ensures

pub returns-in-ArrayUpdate : goal.returns-in-ArrayUpdate
returns-in-ArrayUpdate c = index_put c.updated.result c.args.wires.now c.updated.new.wires c.args.scope c.args.op op.ArrayUpdate c.args.operands.now c.args.index c.args.ty.now c.in-ArrayUpdate.is c.updated.ensures

pub returns-in_default : goal.returns-in_default
returns-in_default c = index_none c.args.wires.now c.args.scope c.args.op c.args.operands.now c.args.index c.args.ty.now c.new.result c.in_default.not-ArrayIndex c.in_default.not-ArrayUpdate
