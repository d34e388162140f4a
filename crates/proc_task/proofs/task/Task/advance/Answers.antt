use Rattle.std.proofs.Common.{arith}
use Rattle.proc_task.proofs.Steps.{same_refl}
use Rattle.proc_task.proofs.task.Task.advance.Goals as goal

pub loop-made-init : goal.loop-made-init
loop-made-init g c = (c.requires, same_refl c.args.self.now, omega arith, g.met.H.Runtime.begins _ _ _ _ _ _ c.new-kept.ensures)
