-- some tasks are done
use Rattle.dslx_check_tasks.specs.Standing.{WorkGoesOn}
use Rattle.dslx_check_tasks.proofs.work.Work.work_off.Given as goal

abbrev pub invariant-steps : goal.invariant-steps
invariant-steps l = WorkGoesOn l.fn.self l.self
