use Rattle.block_stage.proofs.OnMachine.Exact.{always_fed_words_move_in_their_cycle}
use Rattle.block_stage.proofs.machine.laws.always_fed_words_move_in_their_cycle.Goals as goal

pub returns : goal.returns
returns c = always_fed_words_move_in_their_cycle
