use Rattle.task_queue.proofs.LaneKeeps.{comes_back}
use Rattle.task_queue.proofs.lane.deque.Lane.take_back.Goals as goal

pub absorb-requires-clause-rule : goal.absorb-requires-clause-rule
absorb-requires-clause-rule g c = comes_back g.T.Numbered.number_of g.T.Numbered.run_of g.T.Numbered.fact _ _ _ _ c.requires.lane.part c.requires.thief.part
