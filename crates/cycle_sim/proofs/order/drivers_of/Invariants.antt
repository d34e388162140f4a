-- the drivers among the assignments so far
use Rattle.std.proofs.Common.{◌≡◌, length, take}
use Rattle.cycle_sim.specs.Drivers.{AreDrivers}
use Rattle.cycle_sim.proofs.order.drivers_of.Given as goal

abbrev pub invariant-loop-i : goal.invariant-loop-i
invariant-loop-i l = record { size : length l.drivers.items ≡ l.count; drivers : AreDrivers (take l.i l.assignments) l.drivers.items }
