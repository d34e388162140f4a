use Rattle.chan_queue.proofs.OnStreams.Moves.{receives_go}
use Rattle.chan_queue.proofs.streams.laws.receives_go_on.Goals as goal

pub returns : goal.returns
returns c = receives_go
