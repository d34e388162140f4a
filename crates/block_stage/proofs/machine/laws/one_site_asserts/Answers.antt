use Rattle.block_stage.proofs.OnMachine.Asserts.{one_site_asserts_valid, one_site_asserts_ready}
use Rattle.block_stage.proofs.machine.laws.one_site_asserts.Goals as goal

pub returns-clause-sends : goal.returns-clause-sends
returns-clause-sends c = one_site_asserts_valid

pub returns-clause-receives : goal.returns-clause-receives
returns-clause-receives c = one_site_asserts_ready
