use Rattle.dslx_check_judge.proofs.OnInstances.OnChannels.{no_depth, one_depth}
use Rattle.dslx_check_judge.proofs.instances.channels.depth_faults.Goals as goal

pub returns-in-None : goal.returns-in-None
returns-in-None c = no_depth c.args.depth.now c.in-None.is c.none.ensures

pub returns-in_ok-found-in-Some : goal.returns-in_ok-found-in-Some
returns-in_ok-found-in-Some c = one_depth c.args.depth.now c.in-Some.arg c.in-Some.is c.in_ok-found-in-Some.ensures c.depth_limit-limit.ensures c.and.ensures
