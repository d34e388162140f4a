-- what is found and the drivers of the signals that are left are all drivers
use Rattle.std.proofs.Common.{◌≡◌, ◌++◌, drop}
use Rattle.std.specs.Prelude.{filter_map}
use Rattle.cycle_sim.specs.Drivers.{driver_at}
use Rattle.cycle_sim.proofs.order.drivers_at.Given as goal

abbrev pub invariant-loop-signal : goal.invariant-loop-signal
invariant-loop-signal l = l.found ++ filter_map (driver_at l.drivers) (drop l.signal-index l.signals) ≡ filter_map (driver_at l.drivers) l.signals
