use Rattle.std.proofs.Common.{◌≡◌, ◌+◌, drop}
use Rattle.net_core.specs.Cuts.{index_of}
use Rattle.proc_task.specs.Outcome.Places.{head_receives}
use Rattle.proc_task.proofs.outcome.ends.receiver.Given as goal

abbrev pub invariant-loop-place : goal.invariant-loop-place
invariant-loop-place l = index_of (head_receives l.chan) l.heads ≡ l.place + index_of (head_receives l.chan) (drop l.place l.heads)
