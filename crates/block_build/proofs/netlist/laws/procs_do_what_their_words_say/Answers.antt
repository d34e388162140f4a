use Rattle.block_build.proofs.OnNetlist.OnProcs.{procs_do_their_turns}
use Rattle.block_build.proofs.netlist.laws.procs_do_what_their_words_say.Goals as goal

pub returns : goal.returns
returns c = procs_do_their_turns
