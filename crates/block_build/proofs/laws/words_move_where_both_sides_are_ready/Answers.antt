use Rattle.block_build.proofs.Lemmas.Driven.{outputs_move, inputs_move}
use Rattle.block_build.proofs.laws.words_move_where_both_sides_are_ready.Goals as goal

pub returns-clause-outputs : goal.returns-clause-outputs
returns-clause-outputs c = outputs_move

pub returns-clause-inputs : goal.returns-clause-inputs
returns-clause-inputs c = inputs_move
