use Rattle.std.proofs.Common.{◌≤◌, ◌∙◌, subst, sym}
use Rattle.std.proofs.lemmas.Result.{IfOk-weaker, IfErr-weaker}
use Rattle.pipe_schedule.specs.declared.schedule.Demands.{Demands}
use Rattle.pipe_schedule.specs.Packages.{AreSchedules}
use Rattle.block_verilog.specs.Modules.{HaveSlots}
use Rattle.xls_cmd.specs.Shared.Done.{StopsBy}
use Rattle.xls_cmd.proofs.Lemmas.Shared.{err_handed}
use Rattle.cmd_line.specs.Named.{named_verilog}
use Rattle.xls_cmd.specs.Schedule.Commands.{HasSchedules}
use Rattle.xls_cmd.specs.Verilog.Commands.{GivesVerilog}
use Rattle.xls_cmd.proofs.OnVerilog.Steps.{has_printed, stops_at_schedules, stops_at_depth}
use Rattle.xls_cmd.proofs.verilog.command.verilog_of.Goals as goal

pub schedules_of-requires-clause-some : goal.schedules_of-requires-clause-some
schedules_of-requires-clause-some c = subst (λ (demands : Demands). 1 ≤ demands.stages) (sym c.demands_of.ensures) c.requires.some

pub returns-in_err-schedules-clause-refused : goal.returns-in_err-schedules-clause-refused
returns-in_err-schedules-clause-refused c =
    err_handed c.from_residual-in_err-schedules.result c.in_err-schedules.field-0.0 (StopsBy (GivesVerilog (named_verilog c.args.arguments.now) c.args.ir.now)) c.from_residual-in_err-schedules.ensures.1
    (stops_at_schedules (named_verilog c.args.arguments.now) c.args.ir.now c.in_err-schedules.field-0.0
    (subst (λ (demands : Demands). StopsBy (HasSchedules c.args.ir.now demands) c.in_err-schedules.field-0.0) c.demands_of.ensures c.in_err-schedules.ensures.refused))

pub printed-requires-clause-deep : goal.printed-requires-clause-deep
printed-requires-clause-deep c = subst (HaveSlots c.args.ir.now.channels) (sym c.as_slice-2.ensures.value) c.in_ok-depths.ensures.deep

pub returns-clause-gives : goal.returns-clause-gives
returns-clause-gives c =
    let scheduled = subst (λ (demands : Demands). AreSchedules c.args.ir.now.procs demands c.in_ok-schedules.schedules) c.demands_of.ensures c.in_ok-schedules.ensures.schedules in
    IfOk-weaker c.printed.result _ _
    (λ text is. has_printed (named_verilog c.args.arguments.now) c.args.ir.now c.in_ok-schedules.schedules c.as_slice.result.now c.as_slice-2.result.now text.items c.as_slice.ensures (c.as_slice-2.ensures.value ∙ c.in_ok-depths.ensures.depths) scheduled is)
    c.printed.ensures.gives

pub returns-clause-refused : goal.returns-clause-refused
returns-clause-refused c =
    let scheduled = subst (λ (demands : Demands). AreSchedules c.args.ir.now.procs demands c.in_ok-schedules.schedules) c.demands_of.ensures c.in_ok-schedules.ensures.schedules in
    IfErr-weaker c.printed.result _ _
    (λ r stop. stops_at_depth (named_verilog c.args.arguments.now) c.args.ir.now c.in_ok-schedules.schedules c.as_slice.result.now c.as_slice-2.result.now r c.as_slice.ensures (c.as_slice-2.ensures.value ∙ c.in_ok-depths.ensures.depths) scheduled stop)
    c.printed.ensures.refused
