use Rattle.std.proofs.Common.{length}
use Rattle.cycle_sim.proofs.evaluate.+joined.Given as goal

abbrev pub decreases-joined : goal.decreases-joined
decreases-joined l = length l.rest.now
