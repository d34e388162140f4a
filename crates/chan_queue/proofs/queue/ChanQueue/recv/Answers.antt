use Rattle.chan_queue.proofs.Keeps.{receives_word, no_word}
use Rattle.chan_queue.proofs.queue.ChanQueue.recv.Goals as goal

pub pop_as-requires-clause-rule : goal.pop_as-requires-clause-rule
pop_as-requires-clause-rule g c =
    let pass = c.requires.pass in
    (receives_word _ _ pass.receives pass.opens c.requires.word, no_word _ _ pass.receives pass.opens)
