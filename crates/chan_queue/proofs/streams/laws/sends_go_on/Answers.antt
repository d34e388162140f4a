use Rattle.chan_queue.proofs.OnStreams.Moves.{sends_go}
use Rattle.chan_queue.proofs.streams.laws.sends_go_on.Goals as goal

pub returns : goal.returns
returns c = sends_go
