use Rattle.std.proofs.lemmas.Result.{IfOk-weaker}
use Rattle.dslx_check_uses.specs.Inferring.{name_lent, number_of}
use Rattle.dslx_check_judge.proofs.OnInstances.OnSpawns.{by_nothing}
use Rattle.dslx_check_judge.proofs.instances.spawns.proc_args.Goals as goal

pub returns : goal.returns
returns c = IfOk-weaker c.parametric_args.result _ _ (λ args g. by_nothing number_of name_lent c.args.given.now c.as_slice.ensures c.new-none.ensures.numbers c.new-none.ensures.maybe g) c.parametric_args.ensures
