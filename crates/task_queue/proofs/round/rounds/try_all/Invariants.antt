use Rattle.std.proofs.Common.{◌≡◌, ◌+◌, ℕ, false, length}
use Rattle.std.specs.Prelude.{Option}
use Rattle.task_queue.specs.Passes.{AreTasks, sum_numbers}
use Rattle.task_queue.specs.Round.Tasks.{AllWait}
use Rattle.task_queue.proofs.round.rounds.try_all.Given as goal

abbrev pub invariant-loop-task : goal.invariant-loop-task
invariant-loop-task g l =
    ((runtime : Option _) → AreTasks g.T.Numbered.run_of g.T.Numbered.fact runtime l.fn.rest.items → AreTasks g.T.Numbered.run_of g.T.Numbered.fact runtime l.rest.items)
    × ((runtime : Option _) → AreTasks g.T.Numbered.run_of g.T.Numbered.fact runtime l.fn.rest.items → AreTasks g.T.Numbered.run_of g.T.Numbered.fact runtime l.fn.tasks.items → AreTasks g.T.Numbered.run_of g.T.Numbered.fact runtime l.tasks.items)
    × ((h : ℕ → ℕ) → sum_numbers g.T.Numbered.number_of h l.tasks.items + sum_numbers g.T.Numbered.number_of h l.rest.items ≡ sum_numbers g.T.Numbered.number_of h l.fn.tasks.items + sum_numbers g.T.Numbered.number_of h l.fn.rest.items)
    × (l.moved ≡ false → (l.fn.moved ≡ false → AllWait g.T.Steps.waits l.fn.tasks.items) → AllWait g.T.Steps.waits l.tasks.items)

abbrev pub decreases-loop-task : goal.decreases-loop-task
decreases-loop-task g l = length l.rest.items
