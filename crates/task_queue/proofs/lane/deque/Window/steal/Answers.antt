use Rattle.std.proofs.Common.{ℕ, ap}
use Rattle.std.specs.Prelude.{min}
use Rattle.task_queue.proofs.LaneKeeps.{takes, settled_few}
use Rattle.task_queue.proofs.lane.deque.Window.steal.Goals as goal

pub steal_as-requires-clause-takes : goal.steal_as-requires-clause-takes
steal_as-requires-clause-takes g c = takes g.T.Numbered.number_of g.T.Numbered.run_of g.T.Numbered.fact _ _ c.loop.invariant.0.part c.loop.invariant.0.opens

pub steal_as-requires-clause-empty : goal.steal_as-requires-clause-empty
steal_as-requires-clause-empty g c = settled_few g.T.Numbered.number_of g.T.Numbered.run_of g.T.Numbered.fact _ _ _ (ap (λ (k : ℕ). min k 1) c.requires.0)
