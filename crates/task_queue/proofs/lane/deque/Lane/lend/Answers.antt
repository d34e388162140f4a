use Rattle.task_queue.proofs.LaneKeeps.{lends}
use Rattle.task_queue.proofs.lane.deque.Lane.lend.Goals as goal

pub another-requires : goal.another-requires
another-requires g c = lends g.T.Numbered.number_of g.T.Numbered.run_of g.T.Numbered.fact _ _ c.requires.parts
