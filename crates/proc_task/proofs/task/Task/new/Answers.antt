use Rattle.std.proofs.Common.{refl}
use Rattle.proc_task.proofs.Steps.{opens}
use Rattle.proc_task.proofs.task.Task.new.Goals as goal

pub returns-clause-task : goal.returns-clause-task
returns-clause-task g c = opens _ _ _ c.requires c.new.ensures.items refl refl refl
