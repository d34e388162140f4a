use Rattle.pipe_schedule.proofs.Several.{AreScheduledTo}
use Rattle.pipe_schedule.proofs.package.schedule_package.Given as goal

abbrev pub invariant-procs : goal.invariant-procs
invariant-procs l = AreScheduledTo l.ir.procs l.demands l.i l.schedules.items
