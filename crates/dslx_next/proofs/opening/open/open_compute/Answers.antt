use Rattle.std.proofs.Common.{subst, sym}
use Rattle.dslx_core.specs.Lowering.Trees.{lower_expression}
use Rattle.dslx_next.specs.Opening.Opened.{computing}
use Rattle.dslx_next.specs.Opening.Works.{BodyMakes, scope_at}
use Rattle.dslx_next.proofs.OnOpening.Sequels.{makes_value}
use Rattle.dslx_next.proofs.opening.open.open_compute.Goals as goal

pub returns-in-Some : goal.returns-in-Some
returns-in-Some c =
    makes_value c.args.known c.args.work c.in-Some.work (λ t. lower_expression c.args.expr.now (scope_at c.args.known c.args.work t)) computing c.in-Some.value c.compute.result
    (subst (BodyMakes c.args.known c.args.work (λ t. lower_expression c.args.expr.now (scope_at c.args.known c.args.work t))) c.in-Some.is c.in_ok-value.ensures) (sym c.compute.ensures)
