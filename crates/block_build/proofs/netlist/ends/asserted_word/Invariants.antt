use Rattle.block_build.specs.Netlist.Literals.{literal_atom}
use Rattle.block_build.proofs.OnNetlist.OnRequests.{WordLeft}
use Rattle.block_build.proofs.netlist.ends.asserted_word.Given as goal

abbrev pub invariant-sites : goal.invariant-sites
invariant-sites l = WordLeft l.initial.wires l.wires l.channel l.width l.proc.sites.now l.proc.shaken.now l.i (literal_atom l.width 0) l.word
