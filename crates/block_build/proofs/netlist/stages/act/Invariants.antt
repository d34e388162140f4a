use Rattle.block_build.proofs.OnNetlist.OnStaging.{ActingLeft}
use Rattle.block_build.proofs.netlist.stages.act.Given as goal

abbrev pub invariant-stages : goal.invariant-stages
invariant-stages l = ActingLeft l.fn.wires l.wires l.fn.run l.fn.full l.fn.stages l.fn.sites l.stage l.rest l.handshakes.items l.passed.items
