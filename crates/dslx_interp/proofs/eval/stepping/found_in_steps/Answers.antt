use Rattle.std.proofs.Common.{◌≡◌, List, Some, sym, ap, ◌∙◌}
use Rattle.std.specs.Prelude.{slice_get}
use Rattle.dslx_interp.specs.declared.eval.task.Task.{Task}
use Rattle.dslx_interp.proofs.OnEval.Steps.{stuck, done}
use Rattle.dslx_interp.proofs.eval.stepping.found_in_steps.Goals as goal

pub returns-then-not-branch : goal.returns-then-not-branch
returns-then-not-branch c =
    let top : slice_get c.steps.machine.tasks 0 ≡ Some c.in-Some.task = cc (c.pop.ensures.top, c.in-Some.is) in
    sym (stuck c.steps.machine (record c.steps.machine { tasks = c.pop.new.self }) c.step.new.self c.in-Some.task c.in_ok-step-in-Some.field-0
    top (ap (λ (ts : List Task). record c.steps.machine { tasks = ts }) c.pop.ensures.rest) c.in_ok-step-in-Some.ensures c.if-not-branch.true)
    ∙ c.steps.invariant

pub steps-preserved : goal.steps-preserved
steps-preserved c =
    let top : slice_get c.steps.machine.tasks 0 ≡ Some c.in-Some.task = cc (c.pop.ensures.top, c.in-Some.is) in
    sym (done c.steps.machine (record c.steps.machine { tasks = c.pop.new.self }) c.step.new.self c.in-Some.task c.in_ok-step-in-Some.field-0
    top (ap (λ (ts : List Task). record c.steps.machine { tasks = ts }) c.pop.ensures.rest) c.in_ok-step-in-Some.ensures c.if-not-branch.false)
    ∙ c.steps.invariant
