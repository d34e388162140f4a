use Rattle.block_build.proofs.OnNetlist.OnEnds.{some_is_asked, the_word_is_asked}
use Rattle.block_build.proofs.netlist.laws.ends_say_what_is_asked.Goals as goal

pub returns-clause-some : goal.returns-clause-some
returns-clause-some c = some_is_asked

pub returns-clause-word : goal.returns-clause-word
returns-clause-word c = the_word_is_asked
