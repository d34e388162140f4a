-- the sets that are left make of the numbers what all of them make
use Rattle.std.proofs.Common.{◌≡◌, drop}
use Rattle.vlog_tree.specs.Settled.{values_of}
use Rattle.cycle_sim.specs.Stored.{stored}
use Rattle.cycle_sim.proofs.clock.clock.Given as goal

abbrev pub invariant-loop-set : goal.invariant-loop-set
invariant-loop-set l = stored (drop l.set-index l.sets) (values_of l.before) l.values ≡ stored l.sets (values_of l.before) l.initial.values
