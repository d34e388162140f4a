use Rattle.block_build.proofs.Lemmas.Driven.{nothing_is_ready_in_reset, nothing_is_offered_in_reset}
use Rattle.block_build.proofs.laws.nothing_is_driven_in_reset.Goals as goal

pub returns-clause-inputs : goal.returns-clause-inputs
returns-clause-inputs c = nothing_is_ready_in_reset

pub returns-clause-outputs : goal.returns-clause-outputs
returns-clause-outputs c = nothing_is_offered_in_reset
