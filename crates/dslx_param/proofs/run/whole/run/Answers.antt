use Rattle.std.proofs.Common.{rules, ◌≡◌}
use Rattle.dslx_instance.specs.Tasks.Shown.{machine_shown}
use Rattle.dslx_param.proofs.OnRun.Further.{goes_on}
use Rattle.dslx_param.proofs.run.whole.run.Goals as goal

pub steps-preserved : goal.steps-preserved
steps-preserved c =
    goes_on (machine_shown c.args.machine.now) (machine_shown c.steps.machine) (machine_shown c.step.new.machine) c.in_ok-step.field-0 c.steps.invariant c.in_ok-step.ensures
    (search (rules, c.if-not-branch.false))
