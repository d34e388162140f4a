use Rattle.std.proofs.Common.{ℕ, List, Err, sym, subst}
use Rattle.xls_cmd.specs.declared.shared.fault.Fault.TheVariants as fault
use Rattle.xls_cmd.specs.Schedule.Commands.{HasSchedules, infeasible}
use Rattle.xls_cmd.proofs.schedule.scheduling.line.Goals as goal

pub returns-in-Ok : goal.returns-in-Ok
returns-in-Ok c =
    subst (λ (line : List ℕ). HasSchedules c.args.ir.now c.args.demands (Err (fault.Infeasible line))) (sym c.in-Ok.ensures)
    (infeasible c.args.found c.requires.first c.requires.found)
