use Rattle.std.proofs.Common.{◌≡◌, ◌<◌, MatchBool}
use Rattle.net_core.specs.Cuts.{Run, Cut}
use Rattle.net_core.specs.Shows.{Shows, IsBehaviorOf, events_left}
use Rattle.net_core.specs.Keeps.{KeepsFor}
use Rattle.net_run.specs.Rounds.{ShowsSince}
use Rattle.net_run.proofs.run.advance.Given as goal

abbrev pub invariant-loop-kept : goal.invariant-loop-kept
invariant-loop-kept g l =
    ((run : Run) (cut : Cut) → Shows run cut l.fn.config → IsBehaviorOf run l.p (g.B.Body.behavior l.body) → ShowsSince run cut l.config l.went)
    × MatchBool l.went (events_left l.config < events_left l.fn.config) (events_left l.config ≡ events_left l.fn.config)
    × KeepsFor (g.B.Body.keeps l.body l.kept) l.config l.p

abbrev pub decreases-loop-kept : goal.decreases-loop-kept
decreases-loop-kept g l = events_left l.config
