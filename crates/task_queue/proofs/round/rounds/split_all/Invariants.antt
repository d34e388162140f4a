use Rattle.std.proofs.Common.{◌≡◌, ◌+◌, length}
use Rattle.std.specs.Prelude.{Option}
use Rattle.task_queue.specs.Passes.{KnowsRun}
use Rattle.task_queue.proofs.OnRound.Jobs.{IsLeft, Splits}
use Rattle.task_queue.proofs.round.rounds.split_all.Given as goal

abbrev pub invariant-loop : goal.invariant-loop
invariant-loop g l =
    (length l.jobs.items + 1 ≡ l.counter)
    × IsLeft l.queue l.workers l.pass (length l.jobs.items)
    × ((runtime : Option _) → KnowsRun runtime l.fn.pass → Splits l.queue l.workers runtime l.fn.pass l.pass l.jobs.items)
