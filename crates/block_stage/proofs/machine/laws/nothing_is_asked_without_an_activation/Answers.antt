use Rattle.block_stage.proofs.OnMachine.Meeting.{nothing_is_asked_without_an_activation}
use Rattle.block_stage.proofs.machine.laws.nothing_is_asked_without_an_activation.Goals as goal

pub returns : goal.returns
returns c = nothing_is_asked_without_an_activation
