use Rattle.std.proofs.Common.{◌≡◌, take}
use Rattle.net_core.specs.Cuts.{Run, Cut}
use Rattle.net_core.specs.Shows.{Shows}
use Rattle.net_core.specs.Outcomes.{stall_in, behaviors_of}
use Rattle.base.specs.Lists.Indexed.{indexed}
use Rattle.std.proofs.Common.{map}
use Rattle.net_core.proofs.config.Config.stalls.Given as goal

abbrev pub invariant-loop-p : goal.invariant-loop-p
invariant-loop-p g l = (run : Run) (cut : Cut) → Shows run cut l.self → behaviors_of run ≡ map g.B.Body.behavior l.bodies → l.stalls.items ≡ indexed (stall_in run cut) 0 (take l.p run.procs)
