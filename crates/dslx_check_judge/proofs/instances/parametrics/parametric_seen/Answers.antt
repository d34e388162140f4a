use Rattle.dslx_check_judge.proofs.OnInstances.OnParametrics.{one_parametric}
use Rattle.dslx_check_judge.proofs.instances.parametrics.parametric_seen.Goals as goal

pub returns : goal.returns
returns c = λ before is. one_parametric before c.args.parametric.now (λ known later context agrees same. c.local_name-name.ensures known later context before agrees same is) c.in_ok-ty.ensures c.in_ok-default.ensures c.and.ensures c.and-2.ensures
