use Rattle.dslx_check_judge.proofs.OnInstances.OnConfig.{config_walked}
use Rattle.dslx_check_judge.proofs.instances.config.config_faults.Goals as goal

pub returns : goal.returns
returns c = config_walked c.args.process.now c.args.members.now _ _ _ c.as_slice.ensures c.as_slice-statements.ensures c.as_slice-2.ensures.value c.in_ok-given.ensures c.new-made.ensures c.in_ok-add_all.ensures c.in_ok-inside.ensures
    c.in_ok-result.ensures c.keep.ensures c.and.ensures c.and-2.ensures
