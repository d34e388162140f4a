use Rattle.dslx_check_judge.proofs.OnInstances.OnSpawns.{spawned}
use Rattle.dslx_check_judge.proofs.instances.spawns.right_faults.Goals as goal

pub returns : goal.returns
returns c = spawned c.args.spawn.now c.args.target.now c.args.given.now c.in_ok-args.ensures c.in_ok-handed.ensures c.in_ok-reach_proc.ensures c.cyclic_faults-cyclic.ensures c.declared_faults-declared.ensures c.breaks_if-wrong.ensures
    c.and.ensures c.and-2.ensures c.and-3.ensures c.and-4.ensures
