use Rattle.dslx_core.proofs.OnLowering.OfProcs.{next_of_instances, state_of_instances}
use Rattle.dslx_core.proofs.lowering.steps.lower_preserves_steps.Goals as goal

pub returns-clause-activations : goal.returns-clause-activations
returns-clause-activations c = next_of_instances

pub returns-clause-state : goal.returns-clause-state
returns-clause-state c = state_of_instances
