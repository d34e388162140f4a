use Rattle.block_build.proofs.OnNetlist.OnStaging.{KeptLeft}
use Rattle.block_build.proofs.netlist.stages.full_nexts.Given as goal

abbrev pub invariant-stages : goal.invariant-stages
invariant-stages l = KeptLeft l.fn.wires l.wires l.full l.fn.comes l.comes l.moves l.stage l.fn.nexts.items l.nexts.items
