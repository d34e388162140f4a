use Rattle.std.proofs.Common.{◌≡◌, ◌+◌, ℕ, length}
use Rattle.std.specs.Prelude.{Option}
use Rattle.task_queue.specs.Passes.{IsTaskPass, IsSamePass, HasRoom, AreTasks, put_by, taken_by, sum_numbers}
use Rattle.task_queue.proofs.round.rounds.put_all.Given as goal

abbrev pub invariant-loop-task : goal.invariant-loop-task
invariant-loop-task g l =
    IsTaskPass l.queue l.pass
    × IsSamePass l.fn.pass l.pass
    × ((runtime : Option _) → AreTasks g.T.Numbered.run_of g.T.Numbered.fact runtime l.fn.tasks.items → AreTasks g.T.Numbered.run_of g.T.Numbered.fact runtime l.tasks.items)
    × ((h : ℕ → ℕ) → put_by h l.pass + sum_numbers g.T.Numbered.number_of h l.tasks.items ≡ put_by h l.fn.pass + sum_numbers g.T.Numbered.number_of h l.fn.tasks.items)
    × ((h : ℕ → ℕ) → taken_by h l.pass ≡ taken_by h l.fn.pass)
    × ((n : ℕ) → HasRoom (length l.fn.tasks.items + n) l.fn.pass → HasRoom (length l.tasks.items + n) l.pass)

abbrev pub decreases-loop-task : goal.decreases-loop-task
decreases-loop-task g l = length l.tasks.items
