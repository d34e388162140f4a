use Rattle.net_samples.proofs.OnBlocks.Walks.{stalls_for_room}
use Rattle.net_samples.proofs.blocks.machine.Walk.awaiting_room.Goals as goal

pub returns-clause-shows : goal.returns-clause-shows
returns-clause-shows c = λ sites i got at e.
    let words = c.set_word.ensures in
    rw words (stalls_for_room sites c.stopped-walk.result i c.args.chan got c.args.word at (c.stopped-walk.ensures.shows sites i got e))
