use Rattle.std.proofs.Common.{Ok}
use Rattle.std.specs.Option.{option_copied}
use Rattle.xls_cmd.specs.Shared.Done.{StopsBy}
use Rattle.xls_cmd.specs.Shared.Step.{goes_on}
use Rattle.xls_cmd.proofs.Lemmas.Shared.{stops_in_first, err_handed}
use Rattle.cmd_line.specs.Named.{named_ir}
use Rattle.xls_cmd.specs.Lowered.Commands.{GivesText, LowersText, ir_loaded}
use Rattle.xls_cmd.proofs.lowered.command.ir_loaded.Goals as goal

pub returns-in_err-ir-clause-refused : goal.returns-in_err-ir-clause-refused
returns-in_err-ir-clause-refused c =
    err_handed c.from_residual.result c.in_err-ir.field-0.0 (StopsBy (ir_loaded (named_ir c.args.arguments.now) c.args.bytes.now)) c.from_residual.ensures.1
    (stops_in_first (LowersText c.args.arguments.now.design.now (option_copied c.args.arguments.now.top) c.args.bytes.now) (λ made. GivesText made) c.in_err-ir.field-0.0 c.in_err-ir.ensures.refused)

pub returns-clause-gives : goal.returns-clause-gives
returns-clause-gives c = goes_on c.in_ok-ir.ir (Ok c.in_ok-text.text.items) c.in_ok-ir.ensures.gives c.in_ok-text.ensures
