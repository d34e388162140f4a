use Rattle.std.proofs.lemmas.Result.{IfOk-weaker}
use Rattle.dslx_core.specs.Lowering.Trees.{lower_expression}
use Rattle.dslx_param.specs.Works.{LowerResult}
use Rattle.dslx_next.specs.Opening.Works.{BodyMakes, scope_at}
use Rattle.dslx_next.proofs.OnOpening.Sequels.{lower_there}
use Rattle.dslx_next.proofs.opening.work.lower.Goals as goal

pub returns : goal.returns
returns c =
    IfOk-weaker c.lower_in.result (LowerResult c.args.known.text.now c.args.known.limit c.args.work c.args.expr.now)
    (BodyMakes c.args.known c.args.work (λ t. lower_expression c.args.expr.now (scope_at c.args.known c.args.work t)))
    (λ o lowered. lower_there c.args.known c.args.work c.args.expr.now o lowered)
    (c.lower_in.ensures c.requires.has_table)
