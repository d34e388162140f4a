use Rattle.std.proofs.lemmas.Result.{IfOk-weaker}
use Rattle.dslx_check_tasks.proofs.OnDeclarations.OnBehind.{judged_behind}
use Rattle.dslx_check_tasks.proofs.declarations.parts.part_behind.Goals as goal

pub returns : goal.returns
returns c = IfOk-weaker c.part_at.result _ _
    (λ there h. judged_behind c.part_at.new.s c.parametrics_of-parametrics.ensures c.in_ok-s.ensures c.has_all_values-has_all.ensures c.if-not-has_all.false c.parametric_at-next.ensures h) c.part_at.ensures
