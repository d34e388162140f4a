use Rattle.std.proofs.Common.{Ok, ◌≤◌, subst, sym}
use Rattle.std.proofs.lemmas.Result.{IfOk-weaker, IfErr-weaker}
use Rattle.pipe_schedule.specs.declared.schedule.Demands.{Demands}
use Rattle.xls_cmd.specs.Shared.Done.{StopsBy}
use Rattle.xls_cmd.specs.Shared.Step.{goes_on}
use Rattle.xls_cmd.proofs.Lemmas.Shared.{stops_in_first, stops_in_next, err_handed}
use Rattle.cmd_line.specs.Named.{named_schedule}
use Rattle.std.specs.Option.{option_copied}
use Rattle.xls_cmd.specs.Lowered.Commands.{GivesScheduledBy}
use Rattle.xls_cmd.specs.Schedule.Commands.{GivesSchedules, demands_of, schedule_loaded}
use Rattle.xls_cmd.proofs.schedule.command.schedule_loaded.Goals as goal

pub returns-in_err-ir-clause-refused : goal.returns-in_err-ir-clause-refused
returns-in_err-ir-clause-refused c =
    err_handed c.from_residual.result c.in_err-ir.field-0.0 (StopsBy (schedule_loaded (named_schedule c.args.arguments.now) c.args.bytes.now)) c.from_residual.ensures.1
    (stops_in_first (GivesScheduledBy c.args.arguments.now.source c.args.arguments.now.design.now (option_copied c.args.arguments.now.top) c.args.bytes.now) (λ ir. GivesSchedules ir (demands_of c.args.arguments.now.timing)) c.in_err-ir.field-0.0 c.in_err-ir.ensures.refused)

pub scheduled-requires-clause-some : goal.scheduled-requires-clause-some
scheduled-requires-clause-some c = subst (λ (demands : Demands). 1 ≤ demands.stages) (sym c.demands_of.ensures) c.requires.some

pub returns-clause-gives : goal.returns-clause-gives
returns-clause-gives c =
    IfOk-weaker c.scheduled.result _ _ (λ text is. goes_on c.in_ok-ir.ir (Ok text.items) c.in_ok-ir.ensures.gives (subst (λ (demands : Demands). GivesSchedules c.in_ok-ir.ir demands (Ok text.items)) c.demands_of.ensures is))
    c.scheduled.ensures.gives

pub returns-clause-refused : goal.returns-clause-refused
returns-clause-refused c =
    IfErr-weaker c.scheduled.result _ _
    (λ r stop. stops_in_next (GivesScheduledBy c.args.arguments.now.source c.args.arguments.now.design.now (option_copied c.args.arguments.now.top) c.args.bytes.now) (λ ir. GivesSchedules ir (demands_of c.args.arguments.now.timing)) c.in_ok-ir.ir r c.in_ok-ir.ensures.gives
    (subst (λ (demands : Demands). StopsBy (GivesSchedules c.in_ok-ir.ir demands) r) c.demands_of.ensures stop))
    c.scheduled.ensures.refused
