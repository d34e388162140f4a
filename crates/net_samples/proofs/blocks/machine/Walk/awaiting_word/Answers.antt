use Rattle.net_samples.proofs.OnBlocks.Walks.{stalls_for_word}
use Rattle.net_samples.proofs.blocks.machine.Walk.awaiting_word.Goals as goal

pub returns-clause-shows : goal.returns-clause-shows
returns-clause-shows c = λ sites i got at e.
    let flags = c.set.ensures in
    rw flags (stalls_for_word sites c.stopped-walk.result i c.args.chan got at (c.stopped-walk.ensures.shows sites i got e))
