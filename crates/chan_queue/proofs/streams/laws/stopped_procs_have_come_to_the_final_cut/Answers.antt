use Rattle.chan_queue.proofs.OnStreams.Stopped.{come_to_the_end}
use Rattle.chan_queue.proofs.streams.laws.stopped_procs_have_come_to_the_final_cut.Goals as goal

pub returns : goal.returns
returns c run cut fits stopped = come_to_the_end run fits cut stopped
