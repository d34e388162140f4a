use Rattle.block_stage.proofs.OnFifo.Lists.{words_fit_the_depth}
use Rattle.block_stage.proofs.fifo.laws.words_fit_the_depth.Goals as goal

pub returns : goal.returns
returns c = words_fit_the_depth
