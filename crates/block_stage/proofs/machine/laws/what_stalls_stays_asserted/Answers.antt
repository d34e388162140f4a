use Rattle.block_stage.proofs.OnMachine.Offers.{what_stalls_stays_asserted}
use Rattle.block_stage.proofs.machine.laws.what_stalls_stays_asserted.Goals as goal

pub returns : goal.returns
returns c = what_stalls_stays_asserted
