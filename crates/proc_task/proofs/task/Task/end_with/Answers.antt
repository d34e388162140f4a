use Rattle.std.proofs.Common.{refl, arith}
use Rattle.proc_task.proofs.Steps.{after_end}
use Rattle.proc_task.proofs.task.Task.end_with.Goals as goal

pub returns-clause-task : goal.returns-clause-task
returns-clause-task g c = after_end _ _ c.args.self.now c.requires.task c.args.state c.requires.next _ refl refl refl (omega arith) refl c.clear.ensures.items refl (omega arith) refl refl
