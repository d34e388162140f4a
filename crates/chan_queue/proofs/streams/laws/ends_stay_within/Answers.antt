use Rattle.chan_queue.proofs.OnStreams.Within.{ends_within}
use Rattle.chan_queue.proofs.streams.laws.ends_stay_within.Goals as goal

pub returns : goal.returns
returns c = ends_within
