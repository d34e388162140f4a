-- the needs of the assignments so far
use Rattle.std.proofs.Common.{◌≡◌, map, take}
use Rattle.cycle_sim.specs.Drivers.{needs_by}
use Rattle.cycle_sim.proofs.order.needs_of.Given as goal

abbrev pub invariant-loop-assignment : goal.invariant-loop-assignment
invariant-loop-assignment l = l.needs.items ≡ map (needs_by l.drivers) (take l.assignment-index l.assignments)
