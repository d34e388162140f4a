use Rattle.block_build.proofs.OnNetlist.OnGathered.{stages_read_their_words, stages_gather_their_words, gathered_words_agree}
use Rattle.block_build.proofs.netlist.laws.stages_go_by_the_words_on_their_signals.Goals as goal

pub returns-clause-read : goal.returns-clause-read
returns-clause-read c = stages_read_their_words

pub returns-clause-gathered : goal.returns-clause-gathered
returns-clause-gathered c = stages_gather_their_words

pub returns-clause-agree : goal.returns-clause-agree
returns-clause-agree c = gathered_words_agree
