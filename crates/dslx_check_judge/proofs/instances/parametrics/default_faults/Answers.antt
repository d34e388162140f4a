use Rattle.dslx_check_judge.proofs.OnInstances.OnParametrics.{no_default, one_default}
use Rattle.dslx_check_judge.proofs.instances.parametrics.default_faults.Goals as goal

pub returns-in-None : goal.returns-in-None
returns-in-None c = no_default c.args.default.now c.in-None.is c.none.ensures

pub returns-in_ok-found-in-Some : goal.returns-in_ok-found-in-Some
returns-in_ok-found-in-Some c = one_default c.args.default.now c.in-Some.e c.in-Some.is c.in_ok-found-in-Some.ensures c.wanted_faults-wrong.ensures c.and.ensures
