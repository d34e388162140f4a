use Rattle.chan_queue.proofs.OnStreams.Moves.{begins}
use Rattle.chan_queue.proofs.streams.laws.procs_begin_standing.Goals as goal

pub returns : goal.returns
returns c = begins
