use Rattle.std.proofs.Common.{◌∙◌, Some, None, subst, sym}
use Rattle.dslx_core.specs.Lowering.Trees.{lower_expression, of_type}
use Rattle.dslx_core.specs.Lowering.Lowering.{LoweredExpr}
use Rattle.dslx_next.specs.Opening.Opened.{conditional}
use Rattle.dslx_next.specs.Opening.Works.{BodyMakes, scope_at}
use Rattle.dslx_next.proofs.OnOpening.Sequels.{conditional_made}
use Rattle.dslx_next.proofs.opening.work.lower_conditional.Goals as goal

pub returns-in-Some-2 : goal.returns-in-Some-2
returns-in-Some-2 c =
    subst (λ (x : LoweredExpr). BodyMakes c.args.known c.args.work (λ t. conditional c.args.ty.now c.args.condition.now c.args.value.now (scope_at c.args.known c.args.work t)) (Some (record { condition = x; value = c.in-Some-2.value }, c.in-Some-2.work)))
    (sym (c.into_inner-condition.ensures ∙ c.in_ok-condition-in-Some.ensures))
    (conditional_made c.args.known c.args.work c.in-Some.work c.args.ty.now c.args.condition.now c.args.value.now c.in-Some.condition (Some (c.in-Some-2.value, c.in-Some-2.work))
    (subst (BodyMakes c.args.known c.args.work (λ t. lower_expression c.args.condition.now (scope_at c.args.known c.args.work t))) c.in-Some.is c.in_ok-condition.ensures)
    (subst (BodyMakes c.args.known c.in-Some.work (λ t. of_type c.args.ty.now (lower_expression c.args.value.now (scope_at c.args.known c.in-Some.work t)))) c.in-Some-2.is c.in_ok-value-in-Some.ensures))

pub returns-in-None-2 : goal.returns-in-None-2
returns-in-None-2 c =
    conditional_made c.args.known c.args.work c.in-Some.work c.args.ty.now c.args.condition.now c.args.value.now c.in-Some.condition None
    (subst (BodyMakes c.args.known c.args.work (λ t. lower_expression c.args.condition.now (scope_at c.args.known c.args.work t))) c.in-Some.is c.in_ok-condition.ensures)
    (subst (BodyMakes c.args.known c.in-Some.work (λ t. of_type c.args.ty.now (lower_expression c.args.value.now (scope_at c.args.known c.in-Some.work t)))) c.in-None-2.is c.in_ok-value-in-Some.ensures)
