use Rattle.task_queue.proofs.OnRound.Turns.{goes_none}
use Rattle.task_queue.proofs.round.worker.wait.Goals as goal

pub returns-else-moves-before-clause-share : goal.returns-else-moves-before-clause-share
returns-else-moves-before-clause-share g c = (c.requires.share, goes_none g.T.Numbered.number_of g.T.Numbered.run_of g.T.Numbered.fact c.args.share.now)
