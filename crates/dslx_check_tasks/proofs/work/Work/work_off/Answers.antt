use Rattle.std.proofs.Common.{refl}
use Rattle.dslx_check_tasks.proofs.Lemmas.Standing.{stays, steps, with_tasks}
use Rattle.dslx_check_tasks.proofs.work.Work.work_off.Goals as goal

pub steps-init : goal.steps-init
steps-init c = stays c.args.self.now

pub returns-in-None : goal.returns-in-None
returns-in-None c = with_tasks c.args.self.now c.steps.self (record c.steps.self { tasks = c.pop.new.self }) c.steps.invariant refl

pub steps-preserved : goal.steps-preserved
steps-preserved c = steps c.args.self.now (record c.steps.self { tasks = c.pop.new.self }) c.step.new.self (with_tasks c.args.self.now c.steps.self (record c.steps.self { tasks = c.pop.new.self }) c.steps.invariant refl) c.in_ok-step-in-Some.ensures
