use Rattle.std.proofs.Common.{◌≡◌, ◌<◌, MatchBool, map}
use Rattle.net_core.specs.Cuts.{Run, Cut}
use Rattle.net_core.specs.Outcomes.{behaviors_of}
use Rattle.net_core.specs.Shows.{Shows, events_left}
use Rattle.net_run.specs.Rounds.{AllAdvance}
use Rattle.net_run.proofs.run.round.Given as goal

abbrev pub invariant-loop-p : goal.invariant-loop-p
invariant-loop-p g l =
    ((run : Run) (cut : Cut) → Shows run cut l.fn.config → behaviors_of run ≡ map g.B.Body.behavior l.bodies → AllAdvance run cut l.p l.config l.moved)
    × MatchBool l.moved (events_left l.config < events_left l.fn.config) (events_left l.config ≡ events_left l.fn.config)
