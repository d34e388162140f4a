use Rattle.block_stage.proofs.OnFifo.Lists.{given_words_are_a_prefix}
use Rattle.block_stage.proofs.fifo.laws.given_words_are_a_prefix.Goals as goal

pub returns : goal.returns
returns c = given_words_are_a_prefix
