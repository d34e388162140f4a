use Rattle.block_build.specs.Netlist.Literals.{literal_atom}
use Rattle.block_build.proofs.OnNetlist.OnRequests.{SomeLeft}
use Rattle.block_build.proofs.netlist.ends.some_asserted.Given as goal

abbrev pub invariant-sites : goal.invariant-sites
invariant-sites l = SomeLeft l.initial.wires l.wires l.channel l.sends l.proc.sites.now l.proc.shaken.now l.i (literal_atom 1 0) l.some
