use Rattle.block_stage.proofs.OnFifo.Lists.{given_words_were_put_before}
use Rattle.block_stage.proofs.fifo.laws.given_words_were_put_before.Goals as goal

pub returns : goal.returns
returns c = given_words_were_put_before
