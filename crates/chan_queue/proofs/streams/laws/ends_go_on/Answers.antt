use Rattle.chan_queue.proofs.OnStreams.Moves.{ends_next}
use Rattle.chan_queue.proofs.streams.laws.ends_go_on.Goals as goal

pub returns : goal.returns
returns c = ends_next
