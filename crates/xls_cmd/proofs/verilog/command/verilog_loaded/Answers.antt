use Rattle.std.proofs.Common.{Ok}
use Rattle.std.proofs.lemmas.Result.{IfOk-weaker, IfErr-weaker}
use Rattle.xls_cmd.specs.Shared.Done.{StopsBy}
use Rattle.xls_cmd.specs.Shared.Step.{goes_on}
use Rattle.xls_cmd.proofs.Lemmas.Shared.{stops_in_first, stops_in_next, err_handed}
use Rattle.cmd_line.specs.Named.{named_verilog}
use Rattle.std.specs.Option.{option_copied}
use Rattle.xls_cmd.specs.Lowered.Commands.{GivesScheduledBy}
use Rattle.xls_cmd.specs.Verilog.Commands.{GivesVerilog, verilog_loaded}
use Rattle.xls_cmd.proofs.verilog.command.verilog_loaded.Goals as goal

pub returns-in_err-ir-clause-refused : goal.returns-in_err-ir-clause-refused
returns-in_err-ir-clause-refused c =
    err_handed c.from_residual.result c.in_err-ir.field-0.0 (StopsBy (verilog_loaded (named_verilog c.args.arguments.now) c.args.bytes.now)) c.from_residual.ensures.1
    (stops_in_first (GivesScheduledBy c.args.arguments.now.source c.args.arguments.now.design.now (option_copied c.args.arguments.now.top) c.args.bytes.now) (λ ir. GivesVerilog (named_verilog c.args.arguments.now) ir) c.in_err-ir.field-0.0 c.in_err-ir.ensures.refused)

pub returns-clause-gives : goal.returns-clause-gives
returns-clause-gives c =
    IfOk-weaker c.verilog_of.result _ _ (λ text is. goes_on c.in_ok-ir.ir (Ok text.items) c.in_ok-ir.ensures.gives is) c.verilog_of.ensures.gives

pub returns-clause-refused : goal.returns-clause-refused
returns-clause-refused c =
    IfErr-weaker c.verilog_of.result _ _
    (λ r stop. stops_in_next (GivesScheduledBy c.args.arguments.now.source c.args.arguments.now.design.now (option_copied c.args.arguments.now.top) c.args.bytes.now) (λ ir. GivesVerilog (named_verilog c.args.arguments.now) ir) c.in_ok-ir.ir r c.in_ok-ir.ensures.gives stop)
    c.verilog_of.ensures.refused
