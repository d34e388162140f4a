use Rattle.std.proofs.Common.{◌≤◌, length}
use Rattle.proc_runner.specs.Inner.Started.{AreLeft, AreRunTasks}
use Rattle.proc_runner.proofs.start.start.Given as goal

abbrev pub invariant-loop-p : goal.invariant-loop-p
invariant-loop-p g l =
    AreRunTasks g.H.Runtime.run g.H.Runtime.lines l.runtime l.p l.tasks.items
    × AreLeft (g.H.Runtime.run l.runtime) (g.H.Runtime.lines l.runtime) l.p l.ends.senders.items l.ends.receivers.items l.ends.sends.items l.ends.recvs.items
    × (l.p ≤ length l.heads)
