use Rattle.block_build.proofs.OnNetlist.OnLaying.{NodesLaidLeft}
use Rattle.block_build.proofs.netlist.layout.lay_nodes.Given as goal

abbrev pub invariant-nodes : goal.invariant-nodes
invariant-nodes l = NodesLaidLeft l.fn.registers l.registers l.nodes l.stages l.lasts l.i l.copies.items
