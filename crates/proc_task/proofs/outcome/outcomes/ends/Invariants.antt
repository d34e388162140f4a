use Rattle.std.proofs.Common.{◌≡◌, take}
use Rattle.base.specs.Lists.Indexed.{indexed}
use Rattle.proc_task.specs.Outcome.Tasks.{cut_by}
use Rattle.proc_task.specs.Outcome.Inner.Counts.{end_in}
use Rattle.proc_task.proofs.outcome.outcomes.ends.Given as goal

abbrev pub invariant-loop-p : goal.invariant-loop-p
invariant-loop-p g l =
    l.ends.items ≡ indexed (end_in (g.H.Runtime.run l.runtime) (cut_by (g.H.Runtime.run l.runtime) l.tasks)) 0 (take l.p (g.H.Runtime.run l.runtime).procs)
