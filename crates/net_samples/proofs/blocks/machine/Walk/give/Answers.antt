use Rattle.net_samples.proofs.OnBlocks.Walks.{walk_given}
use Rattle.net_samples.proofs.blocks.machine.Walk.give.Goals as goal

pub returns-clause-shows : goal.returns-clause-shows
returns-clause-shows c = λ sites of at shows.
    let went = c.set.ensures in
    let words = c.set_word.ensures in
    rw (went, words) (walk_given sites c.args.self.now of c.args.place c.args.chan c.args.word at shows)
