use Rattle.block_build.proofs.OnNetlist.OnStaging.{MovesLeft}
use Rattle.block_build.proofs.netlist.stages.move_all.Given as goal

abbrev pub invariant-stages : goal.invariant-stages
invariant-stages l = MovesLeft l.fn.wires l.wires l.fn.full l.passed l.i l.behind l.moves.items
