use Rattle.chan_queue.proofs.OnStreams.Within.{sends_within}
use Rattle.chan_queue.proofs.streams.laws.sends_are_of_the_stream.Goals as goal

pub returns : goal.returns
returns c = sends_within
