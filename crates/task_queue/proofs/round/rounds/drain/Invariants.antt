use Rattle.std.proofs.Common.{◌≡◌, ◌+◌, ℕ}
use Rattle.std.specs.Prelude.{Option}
use Rattle.task_queue.specs.Passes.{IsTaskPass, OwnsAll, IsDealt, KnowsRun, AreTasks, put_by, taken_by, sum_numbers}
use Rattle.task_queue.proofs.round.rounds.drain.Given as goal

abbrev pub invariant-loop : goal.invariant-loop
invariant-loop g l =
    IsTaskPass l.queue l.pass
    × OwnsAll l.queue l.pass
    × IsDealt l.pass
    × ((h : ℕ → ℕ) → (put_by h l.pass ≡ put_by h l.fn.pass) × (taken_by h l.pass ≡ taken_by h l.fn.pass + sum_numbers g.T.Numbered.number_of h l.tasks.items))
    × ((runtime : Option _) → KnowsRun runtime l.fn.pass → KnowsRun runtime l.pass × AreTasks g.T.Numbered.run_of g.T.Numbered.fact runtime l.tasks.items)
