use Rattle.std.proofs.Common.{◌∙◌, ◌∷◌, ◌++◌, [], Some, ap, refl, subst}
use Rattle.dslx_core.specs.declared.expr.Shape as shape
use Rattle.dslx_core.specs.declared.step.Step.{Step}
use Rattle.dslx_meaning.specs.Activation.{act_of}
use Rattle.dslx_core.specs.Lowering.Steps.{binds_nothing}
use Rattle.dslx_next.specs.Opening.Works.{BodyMakes, opened_at}
use Rattle.dslx_next.proofs.OnSteps.Passed.{bound_passed, never_passed}
use Rattle.dslx_next.proofs.steps.statement.pass_bare.Goals as goal

pub returns-in_ok-push-in-Some : goal.returns-in_ok-push-in-Some
returns-in_ok-push-in-Some c =
    bound_passed c.args.known c.args.work c.in-Some.work c.args.value.now binds_nothing c.in-Some.opened c.args.steps.now.items c.push.new.self.items (Some c.in-Some.work)
    (subst (BodyMakes c.args.known c.args.work (opened_at c.args.known c.args.work (act_of c.args.value.now) c.args.value.now)) c.in-Some.is c.in_ok-opened.ensures) c.lower_mono.ensures.expression
    (record {
      table = refl;
      parametric_args = refl;
      shape = shape.Wild;
      pushed = c.in_ok-push-in-Some.ensures.items ∙ ap (λ (s : Step). c.args.steps.now.items ++ s ∷ []) c.with_shape.ensures;
      bound = λ t. refl;
    })

pub returns-in-None : goal.returns-in-None
returns-in-None c =
    never_passed c.args.known c.args.work c.args.value.now binds_nothing c.args.steps.now.items c.args.steps.now.items
    (subst (BodyMakes c.args.known c.args.work (opened_at c.args.known c.args.work (act_of c.args.value.now) c.args.value.now)) c.in-None.is c.in_ok-opened.ensures)
