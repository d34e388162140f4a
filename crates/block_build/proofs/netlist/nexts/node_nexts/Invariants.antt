use Rattle.block_build.proofs.OnNetlist.OnNexts.{NodesLeft}
use Rattle.block_build.proofs.netlist.nexts.node_nexts.Given as goal

abbrev pub invariant-nodes : goal.invariant-nodes
invariant-nodes l = NodesLeft l.fn.wires l.wires l.moves l.nodes l.places l.lasts l.i l.fn.nexts.items l.nexts.items
