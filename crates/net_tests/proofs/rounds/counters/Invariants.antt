use Rattle.std.proofs.Common.{◌≡◌, ◌≤◌, ℕ, Some, length}
use Rattle.task_queue.specs.Tasks.{sum_below}
use Rattle.task_queue.specs.Passes.{AreTasks, sum_numbers}
use Rattle.net_tests.proofs.rounds.counters.Given as goal

abbrev pub invariant-loop-number : goal.invariant-loop-number
invariant-loop-number l =
    (length l.tasks.items ≡ l.number)
    × AreTasks {N = ℕ} (λ task. 0) (λ task. Unit {0}) (Some 0) l.tasks.items
    × ((h : ℕ → ℕ) → sum_numbers (λ task. task.number) h l.tasks.items ≡ sum_below h l.number)
    × (l.number ≤ l.count)
