use Rattle.std.proofs.Common.{refl}
use Rattle.dslx_check_judge.proofs.OnInstances.OnSpawns.{instance_reached}
use Rattle.dslx_check_judge.proofs.instances.spawns.reach_instance.Goals as goal

pub returns : goal.returns
returns c = instance_reached _ c.in_ok-instance.instance c.in_ok-instance.ensures.grows c.in_ok-instance.ensures.number refl c.in_ok-reach.ensures
