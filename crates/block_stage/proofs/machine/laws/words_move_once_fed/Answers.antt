use Rattle.block_stage.proofs.OnMachine.Exact.{words_move_once_fed}
use Rattle.block_stage.proofs.machine.laws.words_move_once_fed.Goals as goal

pub returns : goal.returns
returns c = words_move_once_fed
