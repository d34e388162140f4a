use Rattle.std.proofs.Common.{arith, length}
use Rattle.block_build.specs.Netlist.Added.{next_number}
use Rattle.block_build.specs.Netlist.Leaves.{nets}
use Rattle.block_build.specs.Netlist.Nexts.{nodes_copies}
use Rattle.block_build.proofs.OnNetlist.OnNexts.{nothing_left, nodes_more, nodes_done}
use Rattle.block_build.proofs.netlist.nexts.node_nexts.Goals as goal

pub nodes-init : goal.nodes-init
nodes-init c =
    let whole = nodes_copies c.args.moves.now c.args.nodes.now c.args.places.now c.args.lasts.now in
    nothing_left c.args.wires.now whole c.args.nexts.now.items (nets (next_number c.args.wires.now) (length whole))

pub nodes-preserved : goal.nodes-preserved
nodes-preserved c =
    let l = c.nodes-test.true in
    let m = c.min-count.ensures in
    let n = c.min.ensures in
    nodes_more c.args.wires.now c.nodes.wires c.node_next.new.wires c.args.moves.now c.args.nodes.now c.args.places.now c.args.lasts.now c.nodes.i c.args.nexts.now.items c.nodes.nexts.items c.node_next.new.nexts.items c.index-nodes-i.result c.index-places-i.result (omega (arith, l, m, n)) (omega (arith, l, m, n)) (omega (arith, l, m, n)) c.index-nodes-i.is c.index-places-i.is c.nodes.invariant c.in_ok-node_next.ensures.nexts c.in_ok-node_next.ensures.puts

pub returns : goal.returns
returns c =
    let d = nodes_done c.args.wires.now c.nodes.wires c.args.moves.now c.args.nodes.now c.args.places.now c.args.lasts.now c.nodes.i c.args.nexts.now.items c.nodes.nexts.items (omega (arith, c.nodes-test.false, c.min-count.ensures, c.min.ensures)) c.nodes.invariant in
    record { nexts = d.0; puts = d.1 }
