use Rattle.std.proofs.Common.{ℕ, List, length}
use Rattle.std.specs.Prelude.{Option}
use Rattle.task_queue.specs.declared.queue.TaskPass.{TaskPass}
use Rattle.task_queue.specs.Round.Inner.Jobs.{CanGather}
use Rattle.task_queue.proofs.OnRound.Jobs.{Gathers}
use Rattle.task_queue.proofs.round.rounds.gather.Given as goal

abbrev pub invariant-loop-next : goal.invariant-loop-next
invariant-loop-next g l =
    (runtime : Option _) (jobs : List (TaskPass _ _)) (workers : ℕ) → CanGather g.T.Numbered.number_of g.T.Numbered.run_of g.T.Numbered.fact g.T.Steps.waits l.queue runtime workers jobs l.fn.shares.items
    → Gathers g.T.Numbered.number_of g.T.Numbered.run_of g.T.Numbered.fact g.T.Steps.waits l.queue runtime workers jobs l.fn.shares.items l.shares.items l.all

abbrev pub decreases-loop-next : goal.decreases-loop-next
decreases-loop-next g l = length l.shares.items
