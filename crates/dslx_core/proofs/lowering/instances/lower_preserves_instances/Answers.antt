use Rattle.dslx_core.proofs.OnLowering.Tables.{instances_simulate}
use Rattle.dslx_core.proofs.lowering.instances.lower_preserves_instances.Goals as goal

pub returns : goal.returns
returns c = instances_simulate
