use Rattle.net_samples.proofs.OnBlocks.Walks.{walk_taken}
use Rattle.net_samples.proofs.blocks.machine.Walk.take.Goals as goal

pub returns-clause-shows : goal.returns-clause-shows
returns-clause-shows c = λ sites of at shows.
    let went = c.set.ensures in
    let took = c.set_word.ensures in
    let ready = c.set-2.ensures in
    rw (went, took, ready) (walk_taken sites c.args.self.now of c.args.place c.args.chan c.args.word at shows)
