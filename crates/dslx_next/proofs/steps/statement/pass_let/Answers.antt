use Rattle.std.proofs.Common.{subst}
use Rattle.std.proofs.lemmas.Result.{IfOk-weaker}
use Rattle.dslx_meaning.specs.Activation.{act_of}
use Rattle.dslx_core.specs.Machines.Machine.Arms.{shaped_at}
use Rattle.dslx_next.specs.Opening.Works.{BodyMakes, opened_at}
use Rattle.dslx_next.specs.Steps.Passing.{StepBinds, BodyPasses, act_at}
use Rattle.dslx_next.proofs.OnSteps.Passed.{bound_passed, never_passed}
use Rattle.dslx_next.proofs.steps.statement.pass_let.Goals as goal

pub returns-in-Some : goal.returns-in-Some
returns-in-Some c =
    IfOk-weaker c.bind_step.result (StepBinds c.args.known (shaped_at c.args.pattern.now) c.in-Some.opened c.args.steps.now.items c.in-Some.work c.bind_step.new.steps.items)
    (BodyPasses c.args.known (act_at c.args.known c.args.work c.args.value.now (shaped_at c.args.pattern.now)) c.args.steps.now.items c.args.work c.bind_step.new.steps.items)
    (λ r bound. bound_passed c.args.known c.args.work c.in-Some.work c.args.value.now (shaped_at c.args.pattern.now) c.in-Some.opened c.args.steps.now.items c.bind_step.new.steps.items r
    (subst (BodyMakes c.args.known c.args.work (opened_at c.args.known c.args.work (act_of c.args.value.now) c.args.value.now)) c.in-Some.is c.in_ok-opened.ensures) c.lower_mono.ensures.expression bound)
    c.bind_step.ensures

pub returns-in-None : goal.returns-in-None
returns-in-None c =
    never_passed c.args.known c.args.work c.args.value.now (shaped_at c.args.pattern.now) c.args.steps.now.items c.args.steps.now.items
    (subst (BodyMakes c.args.known c.args.work (opened_at c.args.known c.args.work (act_of c.args.value.now) c.args.value.now)) c.in-None.is c.in_ok-opened.ensures)
