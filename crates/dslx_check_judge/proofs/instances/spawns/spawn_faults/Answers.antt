use Rattle.dslx_check_judge.proofs.OnInstances.OnSpawns.{spawn_sliced}
use Rattle.dslx_check_judge.proofs.instances.spawns.spawn_faults.Goals as goal

pub returns : goal.returns
returns c = spawn_sliced c.args.spawn.now _ _ _ _ c.as_slice.ensures c.as_slice-2.ensures.value c.as_slice-3.ensures.value c.as_slice-idents.ensures c.in_ok-given.ensures c.given_faults.ensures c.unknown_ends-unknown.ensures c.in_ok-own.ensures c.in_ok-use_all.ensures c.and.ensures c.and-2.ensures
