use Rattle.std.proofs.Common.{◌≡◌, drop}
use Rattle.proc_task.specs.Outcome.Tasks.{task_in}
use Rattle.proc_task.proofs.outcome.tasks.task_of.Given as goal

abbrev pub invariant-loop-task : goal.invariant-loop-task
invariant-loop-task g l = task_in l.number (drop l.task-index l.tasks) ≡ task_in l.number l.tasks
