use Rattle.block_stage.proofs.OnMachine.Handshakes.{nothing_is_received_without_a_site}
use Rattle.block_stage.proofs.machine.laws.nothing_is_received_without_a_site.Goals as goal

pub returns : goal.returns
returns c = nothing_is_received_without_a_site
