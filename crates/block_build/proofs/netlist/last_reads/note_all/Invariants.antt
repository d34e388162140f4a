use Rattle.std.proofs.Common.{drop}
use Rattle.block_build.proofs.OnNetlist.OnLastReads.{NotedLeft}
use Rattle.block_build.proofs.netlist.last_reads.note_all.Given as goal

abbrev pub invariant-operands : goal.invariant-operands
invariant-operands l = NotedLeft l.fn.reads l.reads l.stage (drop l.i l.operands) l.operands
