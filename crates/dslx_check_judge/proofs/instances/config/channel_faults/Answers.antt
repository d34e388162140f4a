use Rattle.dslx_check_judge.proofs.OnInstances.OnConfig.{channel_walked}
use Rattle.dslx_check_judge.proofs.instances.config.channel_faults.Goals as goal

pub returns : goal.returns
returns c = channel_walked c.args.channel.now c.channel_names-names.ensures c.in_ok-word.ensures c.in_ok-depth.ensures c.in_ok-make_channel.ensures c.and.ensures c.and-2.ensures
