use Rattle.dslx_total.proofs.OnTyped.OfFunctions.{instance_is_typed}
use Rattle.dslx_total.proofs.typed.instances.lowered_instances_are_typed.Goals as goal

pub returns : goal.returns
returns c = instance_is_typed
