use Rattle.block_build.proofs.OnNetlist.OnPure.{plain_node, slice_node, dynamic_node, extend_node, sel_node, part_node, index_node, literal_node, channel_node}
use Rattle.block_build.proofs.netlist.nodes.pure.Goals as goal

pub returns-in-None : goal.returns-in-None
returns-in-None c = plain_node c.plain.result c.args.wires.now c.plain.new.wires c.args.scope c.args.node.now c.as_slice-operands.result.now c.as_slice-operands.ensures c.in-None.is c.plain.ensures

pub returns-in-StartAndWidth : goal.returns-in-StartAndWidth
returns-in-StartAndWidth c =
    slice_node c.slice.result c.args.wires.now c.slice.new.wires c.args.scope c.args.node.now c.as_slice-operands.result.now c.in-StartAndWidth.start c.in-StartAndWidth.width c.as_slice-operands.ensures c.in-StartAndWidth.is c.slice.ensures

pub returns-in-Width : goal.returns-in-Width
returns-in-Width c =
    dynamic_node c.dyn_slice.result c.args.wires.now c.dyn_slice.new.wires c.args.scope c.args.node.now c.as_slice-operands.result.now c.in-Width.width c.as_slice-operands.ensures c.in-Width.is c.dyn_slice.ensures

pub returns-in-NewBitCount : goal.returns-in-NewBitCount
returns-in-NewBitCount c =
    extend_node c.extended.result c.args.wires.now c.extended.new.wires c.args.scope c.args.node.now c.as_slice-operands.result.now c.in-NewBitCount.width c.as_slice-operands.ensures c.in-NewBitCount.is c.extended.ensures

pub returns-in-Cases : goal.returns-in-Cases
returns-in-Cases c =
    sel_node c.selected.result c.args.wires.now c.selected.new.wires c.args.scope c.args.node.now c.as_slice-operands.result.now c.as_slice.result.now c.in-Cases.cases c.in-Cases.default
    c.as_slice-operands.ensures c.as_slice.ensures c.in-Cases.is c.selected.ensures

pub returns-in-Index : goal.returns-in-Index
returns-in-Index c = part_node c.part.result c.args.wires.now c.args.scope c.args.node.now c.as_slice-operands.result.now c.in-Index.index c.as_slice-operands.ensures c.in-Index.is c.part.ensures

pub returns-in-Indices : goal.returns-in-Indices
returns-in-Indices c =
    index_node c.indexed.result c.args.wires.now c.indexed.new.wires c.args.scope c.args.node.now c.as_slice-operands.result.now c.in-Indices.index c.as_slice-operands.ensures c.in-Indices.is c.indexed.ensures

pub returns-in-Value : goal.returns-in-Value
returns-in-Value c = literal_node c.literals.result c.args.wires.now c.args.scope c.args.node.now c.in-Value.constant c.in-Value.is c.literals.ensures

pub returns-in-Channel : goal.returns-in-Channel
returns-in-Channel c = channel_node c.args.wires.now c.args.scope c.args.node.now c.in-Channel.field-0 c.in-Channel.field-1 c.new.result c.in-Channel.is c.new.ensures
