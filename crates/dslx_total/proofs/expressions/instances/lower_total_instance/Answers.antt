use Rattle.dslx_total.proofs.OnExpressions.OfInstances.{instance_is_lowered}
use Rattle.dslx_total.proofs.expressions.instances.lower_total_instance.Goals as goal

pub returns : goal.returns
returns c = instance_is_lowered
