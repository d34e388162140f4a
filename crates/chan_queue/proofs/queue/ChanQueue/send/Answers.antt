use Rattle.chan_queue.proofs.Keeps.{sends_word, no_room}
use Rattle.chan_queue.proofs.queue.ChanQueue.send.Goals as goal

pub push_as-requires-clause-rule : goal.push_as-requires-clause-rule
push_as-requires-clause-rule g c =
    let pass = c.requires.pass in
    (sends_word _ _ _ _ pass.sends pass.opens pass.depth c.requires.word, no_room _ _ pass.sends pass.opens)
