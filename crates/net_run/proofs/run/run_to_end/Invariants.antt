use Rattle.std.proofs.Common.{◌≡◌, map}
use Rattle.net_core.specs.Cuts.{Run, Cut}
use Rattle.net_core.specs.Outcomes.{behaviors_of}
use Rattle.net_core.specs.Shows.{Shows, events_left}
use Rattle.net_run.proofs.run.run_to_end.Given as goal

abbrev pub invariant-loop : goal.invariant-loop
invariant-loop g l = (run : Run) (cut : Cut) → Shows run cut l.fn.config → behaviors_of run ≡ map g.B.Body.behavior l.bodies → (next : Cut) × Shows run next l.config

abbrev pub decreases-loop : goal.decreases-loop
decreases-loop g l = events_left l.config
