use Rattle.std.proofs.Common.{arith}
use Rattle.task_queue.proofs.LaneKeeps.{takes, settled}
use Rattle.task_queue.proofs.lane.deque.Lane.take.Goals as goal

pub pop_as-requires-clause-fifo : goal.pop_as-requires-clause-fifo
pop_as-requires-clause-fifo g c is = takes g.T.Numbered.number_of g.T.Numbered.run_of g.T.Numbered.fact _ _ c.requires.part c.requires.opens

pub pop_as-requires-clause-lifo : goal.pop_as-requires-clause-lifo
pop_as-requires-clause-lifo g c is = absurd (omega (arith, is, c.requires.order))

pub pop_as-requires-clause-empty : goal.pop_as-requires-clause-empty
pop_as-requires-clause-empty g c = settled g.T.Numbered.number_of g.T.Numbered.run_of g.T.Numbered.fact _ _
