use Rattle.std.proofs.lemmas.Result.{IfOk-weaker}
use Rattle.dslx_check_judge.proofs.OnInstances.OnResults.{no_result, one_result}
use Rattle.dslx_check_judge.proofs.instances.functions.result_seen.Goals as goal

pub returns-in-Some : goal.returns-in-Some
returns-in-Some c = IfOk-weaker c.type_expr.result _ _ (λ j g. one_result c.args.written.now c.in-Some.ty c.in-Some.is g) c.type_expr.ensures

pub returns-in_ok-ty-in-None : goal.returns-in_ok-ty-in-None
returns-in_ok-ty-in-None c = no_result c.args.written.now c.in-None.is c.in_ok-ty-in-None.ensures.is c.in_ok-ty-in-None.ensures.rows c.in_ok-ty-in-None.ensures.there c.in_ok-ty-in-None.ensures.grows c.none.ensures
