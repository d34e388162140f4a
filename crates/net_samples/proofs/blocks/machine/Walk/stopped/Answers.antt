use Rattle.net_samples.proofs.OnBlocks.Walks.{walk_stopped}
use Rattle.net_samples.proofs.blocks.machine.Walk.stopped.Goals as goal

pub returns-clause-shows : goal.returns-clause-shows
returns-clause-shows c = λ sites i got e. walk_stopped sites c.args.stage_entry i got e _ (c.nothing.ensures sites)
