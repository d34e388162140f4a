use Rattle.task_queue.proofs.LaneKeeps.{puts}
use Rattle.task_queue.proofs.lane.deque.Lane.put.Goals as goal

pub push_as-requires-clause-pushes : goal.push_as-requires-clause-pushes
push_as-requires-clause-pushes g c = puts g.T.Numbered.number_of g.T.Numbered.run_of g.T.Numbered.fact _ _ _ c.requires.lane.part c.requires.lane.opens c.requires.run c.requires.fact
