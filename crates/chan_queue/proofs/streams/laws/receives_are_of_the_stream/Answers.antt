use Rattle.chan_queue.proofs.OnStreams.Within.{receives_within}
use Rattle.chan_queue.proofs.streams.laws.receives_are_of_the_stream.Goals as goal

pub returns : goal.returns
returns c = receives_within
