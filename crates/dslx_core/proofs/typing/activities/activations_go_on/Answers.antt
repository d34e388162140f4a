use Rattle.dslx_core.proofs.OnTyping.OnActivities.Activations.{activation_goes}
use Rattle.dslx_core.proofs.OnTyping.OnActivities.Statements.{body_goes}
use Rattle.dslx_core.proofs.typing.activities.activations_go_on.Goals as goal

pub returns-clause-body : goal.returns-clause-body
returns-clause-body c = body_goes

pub returns-clause-activation : goal.returns-clause-activation
returns-clause-activation c = activation_goes
