use Rattle.block_build.proofs.OnNetlist.OnReceives.{the_word_is_received, the_word_is_kept}
use Rattle.block_build.proofs.netlist.laws.words_are_the_machines.Goals as goal

pub returns-clause-received : goal.returns-clause-received
returns-clause-received c = the_word_is_received

pub returns-clause-kept : goal.returns-clause-kept
returns-clause-kept c = the_word_is_kept
