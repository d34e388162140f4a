use Rattle.std.proofs.Common.{◌≡◌, drop}
use Rattle.net_core.specs.Behavior.{next_event, event_from}
use Rattle.net_samples.specs.Behaviors.{behavior_of}
use Rattle.net_samples.proofs.body.SampleBody.next.Given as goal

abbrev pub invariant-loop-i : goal.invariant-loop-i
invariant-loop-i l =
    event_from (behavior_of l.self) l.state l.got l.i (drop l.i (behavior_of l.self).sites) ≡ next_event (behavior_of l.self) l.state l.got l.done
