use Rattle.std.proofs.Common.{◌≡◌, ◌+◌}
use Rattle.proc_task.specs.Moving.{IsTask, IsSameTask}
use Rattle.proc_task.proofs.task.Task.advance.Given as goal

abbrev pub invariant-loop-made : goal.invariant-loop-made
invariant-loop-made g l =
    IsTask (g.H.Runtime.run l.self.runtime) (g.H.Runtime.lines l.self.runtime) l.self × IsSameTask l.fn.self l.self × (l.self.count ≡ l.fn.self.count + l.made)
    × g.H.Runtime.keeps l.self.runtime l.self.number l.kept l.self.state l.self.got.items l.self.done
