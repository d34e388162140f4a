use Rattle.std.proofs.Common.{subst, sym}
use Rattle.dslx_core.specs.Lowering.Trees.{lower_expression, of_type}
use Rattle.dslx_next.specs.Opening.Works.{BodyMakes, scope_at}
use Rattle.dslx_next.proofs.OnOpening.Sequels.{of_this_type}
use Rattle.dslx_next.proofs.opening.work.lower_of_type.Goals as goal

pub returns-in-Some : goal.returns-in-Some
returns-in-Some c =
    subst (BodyMakes c.args.known c.args.work (λ t. of_type c.args.ty.now (lower_expression c.args.expr.now (scope_at c.args.known c.args.work t)))) (sym c.where_holds.ensures)
    (of_this_type c.args.known c.args.work c.in-Some.work c.args.expr.now c.args.ty.now c.in-Some.value c.equal_type-alike.result
    (subst (BodyMakes c.args.known c.args.work (λ t. lower_expression c.args.expr.now (scope_at c.args.known c.args.work t))) c.in-Some.is c.in_ok-value.ensures) c.equal_type-alike.ensures)
