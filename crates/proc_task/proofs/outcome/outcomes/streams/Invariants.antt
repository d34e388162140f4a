use Rattle.std.proofs.Common.{◌≡◌, take}
use Rattle.base.specs.Lists.Indexed.{indexed}
use Rattle.net_core.specs.Outcomes.{stream_of}
use Rattle.proc_task.specs.Outcome.Tasks.{cut_by}
use Rattle.proc_task.proofs.outcome.outcomes.streams.Given as goal

abbrev pub invariant-loop-c : goal.invariant-loop-c
invariant-loop-c g l =
    l.streams.items ≡ indexed (stream_of (g.H.Runtime.run l.runtime) (cut_by (g.H.Runtime.run l.runtime) l.tasks)) 0 (take l.c l.net.chans)
