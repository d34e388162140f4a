use Rattle.block_stage.proofs.OnMachine.Offered.{untaken_words_stay_valid}
use Rattle.block_stage.proofs.machine.laws.untaken_words_stay_valid.Goals as goal

pub returns : goal.returns
returns c = untaken_words_stay_valid
