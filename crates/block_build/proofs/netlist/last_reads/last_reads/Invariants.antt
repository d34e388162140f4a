use Rattle.block_build.proofs.OnNetlist.OnLastReads.{ReadsLeft}
use Rattle.block_build.proofs.netlist.last_reads.last_reads.Given as goal

abbrev pub invariant-nodes : goal.invariant-nodes
invariant-nodes l = ReadsLeft l.reads l.stages l.fn.proc l.fn.last l.i
