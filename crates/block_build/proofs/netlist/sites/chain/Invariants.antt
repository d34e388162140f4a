use Rattle.block_build.proofs.OnNetlist.OnChains.{ChainLeft}
use Rattle.block_build.proofs.netlist.sites.chain.Given as goal

abbrev pub invariant-sites : goal.invariant-sites
invariant-sites l = ChainLeft l.initial.wires l.wires l.fn.acts l.ready l.sites l.i l.initial.shaken.items l.shaken.items
