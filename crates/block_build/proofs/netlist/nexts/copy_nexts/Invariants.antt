use Rattle.block_build.proofs.OnNetlist.OnNexts.{CopiesLeft}
use Rattle.block_build.proofs.netlist.nexts.copy_nexts.Given as goal

abbrev pub invariant-stages : goal.invariant-stages
invariant-stages l = CopiesLeft l.fn.wires l.wires l.widths l.place l.moves l.last l.stage l.fn.nexts.items l.nexts.items
