use Rattle.std.proofs.Common.{◌≡◌, ℕ, length}
use Rattle.task_queue.specs.Round.Inner.Shares.{IsShare, IsBalanced, HasRoomFor}
use Rattle.task_queue.proofs.round.share.Share.unpark.Given as goal

abbrev pub invariant-loop-task : goal.invariant-loop-task
invariant-loop-task g l =
    IsShare g.T.Numbered.number_of g.T.Numbered.run_of g.T.Numbered.fact l.queue l.self
    × IsBalanced g.T.Numbered.number_of l.fn.self l.self
    × ((n : ℕ) → HasRoomFor n l.fn.self → HasRoomFor n l.self)
    × (l.self.moved ≡ l.fn.self.moved)

abbrev pub decreases-loop-task : goal.decreases-loop-task
decreases-loop-task g l = length l.self.parked.items
