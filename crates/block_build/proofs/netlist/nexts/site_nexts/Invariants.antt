use Rattle.block_build.proofs.OnNetlist.OnNexts.{SitesLeft}
use Rattle.block_build.proofs.netlist.nexts.site_nexts.Given as goal

abbrev pub invariant-sites : goal.invariant-sites
invariant-sites l = SitesLeft l.fn.wires l.wires l.moves l.sites l.handshakes l.i l.fn.nexts.items l.nexts.items
