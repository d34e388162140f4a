use Rattle.block_stage.proofs.OnMachine.Meeting.{a_moved_activation_stands_in_the_next_stage, the_turn_comes_back}
use Rattle.block_stage.proofs.machine.laws.moved_activations_go_on.Goals as goal

pub returns-clause-stands : goal.returns-clause-stands
returns-clause-stands c = a_moved_activation_stands_in_the_next_stage

pub returns-clause-turn : goal.returns-clause-turn
returns-clause-turn c = the_turn_comes_back
