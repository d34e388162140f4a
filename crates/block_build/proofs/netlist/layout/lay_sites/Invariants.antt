use Rattle.block_build.proofs.OnNetlist.OnLaying.{SitesLaidLeft}
use Rattle.block_build.proofs.netlist.layout.lay_sites.Given as goal

abbrev pub invariant-nodes : goal.invariant-nodes
invariant-nodes l = SitesLaidLeft l.fn.registers l.registers l.channels l.nodes l.i l.sites.items
