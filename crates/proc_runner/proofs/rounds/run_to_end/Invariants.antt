use Rattle.std.proofs.Common.{length}
use Rattle.proc_runner.specs.Inner.Started.{AreRunTasks}
use Rattle.proc_runner.proofs.rounds.run_to_end.Given as goal

abbrev pub invariant-loop : goal.invariant-loop
invariant-loop g l = AreRunTasks g.H.Runtime.run g.H.Runtime.lines l.runtime (length (g.H.Runtime.run l.runtime).procs) l.tasks.items
