use Rattle.std.proofs.Common.{refl}
use Rattle.std.proofs.lemmas.Result.{on_ok_weaker}
use Rattle.dslx_check_tasks.proofs.Lemmas.Standing.{only_tasks, steps}
use Rattle.dslx_check_tasks.proofs.work.Work.settle.Goals as goal

pub returns : goal.returns
returns c = on_ok_weaker c.work_off.result
    (λ g. steps c.args.self.now (record c.args.self.now { tasks = c.push.new.self }) c.work_off.new.self (only_tasks c.args.self.now (record c.args.self.now { tasks = c.push.new.self }) refl) g)
    c.work_off.ensures
