use Rattle.std.proofs.Common.{IfOk, Option, subst, sym}
use Rattle.dslx_tree.specs.declared.expr.Expr.{Expr}
use Rattle.dslx_core.specs.Lowering.Trees.{lower_expression}
use Rattle.dslx_next.specs.Opening.Works.{BodyMakes, scope_at}
use Rattle.dslx_next.specs.Steps.Passing.{last_at}
use Rattle.dslx_next.proofs.steps.body.lower_last.Goals as goal

pub returns-in-Some : goal.returns-in-Some
returns-in-Some c =
    subst (λ (o : Option Expr). IfOk c.lower.result (BodyMakes c.args.known c.args.work (last_at c.args.known c.args.work o))) (sym c.in-Some.is)
    (subst (λ (e : Expr). IfOk c.lower.result (BodyMakes c.args.known c.args.work (λ t. lower_expression e (scope_at c.args.known c.args.work t)))) c.get.ensures c.lower.ensures)
