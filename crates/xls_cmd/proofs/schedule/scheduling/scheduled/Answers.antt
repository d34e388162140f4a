use Rattle.std.proofs.Common.{List, Ok, ap, ◌∙◌}
use Rattle.pipe_schedule.specs.declared.schedule.Schedule.{Schedule}
use Rattle.pipe_schedule.specs.Text.Text.{schedule_text}
use Rattle.xls_cmd.specs.Shared.Done.{StopsBy}
use Rattle.xls_cmd.specs.Shared.Step.{Gives, goes_on}
use Rattle.xls_cmd.specs.Schedule.Commands.{GivesSchedules, HasSchedules, fits}
use Rattle.xls_cmd.proofs.Lemmas.Shared.{stops_in_first, err_handed}
use Rattle.xls_cmd.proofs.schedule.scheduling.scheduled.Goals as goal

pub returns-in_err-schedules-clause-refused : goal.returns-in_err-schedules-clause-refused
returns-in_err-schedules-clause-refused c =
    err_handed c.from_residual.result c.in_err-schedules.field-0.0 (StopsBy (GivesSchedules c.args.ir.now c.args.demands)) c.from_residual.ensures.1
    (stops_in_first (HasSchedules c.args.ir.now c.args.demands) (λ schedules. Gives (Ok (schedule_text c.args.ir.now schedules))) c.in_err-schedules.field-0.0 c.in_err-schedules.ensures.refused)

pub returns-clause-gives : goal.returns-clause-gives
returns-clause-gives c =
    goes_on c.in_ok-schedules.schedules (Ok c.in_ok-text.text.items) (fits c.in_ok-schedules.schedules c.in_ok-schedules.ensures.schedules)
    (ap Ok (c.in_ok-text.ensures ∙ ap (λ (s : List Schedule). schedule_text c.args.ir.now s) c.as_slice.ensures))
