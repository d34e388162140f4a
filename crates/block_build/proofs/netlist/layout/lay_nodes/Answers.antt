use Rattle.std.proofs.Common.{arith}
use Rattle.block_build.proofs.OnNetlist.OnLaying.{nodes_begun, nodes_more, nodes_done}
use Rattle.block_build.proofs.netlist.layout.lay_nodes.Goals as goal

pub nodes-init : goal.nodes-init
nodes-init c = nodes_begun c.args.registers.now c.args.nodes.now c.args.stages.now c.args.lasts.now _ c.new-copies.ensures.items

pub nodes-preserved : goal.nodes-preserved
nodes-preserved c =
    let l = c.nodes-test.true in
    let m = c.min-count.ensures in
    let n = c.min.ensures in
    nodes_more c.args.registers.now c.nodes.registers c.lay_node.new.registers c.args.nodes.now c.args.stages.now c.args.lasts.now c.nodes.i c.index-nodes-i.result c.in_ok-first.first c.nodes.copies.items c.push.new.self.items
    (omega (arith, l, m, n)) (omega (arith, l, m, n)) (omega (arith, l, m, n)) c.index-nodes-i.is c.nodes.invariant c.in_ok-first.ensures.number c.in_ok-push.ensures.items c.in_ok-first.ensures.lays

pub returns : goal.returns
returns c =
    let d = nodes_done c.args.registers.now c.nodes.registers c.args.nodes.now c.args.stages.now c.args.lasts.now c.nodes.i c.nodes.copies.items (omega (arith, c.nodes-test.false, c.min-count.ensures, c.min.ensures)) c.nodes.invariant in
    record { copies = d.0; lays = d.1 }
