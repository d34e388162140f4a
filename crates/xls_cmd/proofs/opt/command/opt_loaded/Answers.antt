use Rattle.std.proofs.Common.{Ok}
use Rattle.xls_cmd.specs.Shared.Done.{StopsBy}
use Rattle.xls_cmd.specs.Shared.Step.{goes_on}
use Rattle.xls_cmd.proofs.Lemmas.Shared.{stops_in_first, err_handed}
use Rattle.cmd_line.specs.Named.{named_opt}
use Rattle.std.specs.Option.{option_copied}
use Rattle.xls_cmd.specs.Lowered.Commands.{GivesPackageBy}
use Rattle.xls_cmd.specs.Opt.Commands.{GivesOptimised, opt_loaded}
use Rattle.xls_cmd.proofs.opt.command.opt_loaded.Goals as goal

pub returns-in_err-ir-clause-refused : goal.returns-in_err-ir-clause-refused
returns-in_err-ir-clause-refused c =
    err_handed c.from_residual.result c.in_err-ir.field-0.0 (StopsBy (opt_loaded (named_opt c.args.arguments.now) c.args.bytes.now)) c.from_residual.ensures.1
    (stops_in_first (GivesPackageBy c.args.arguments.now.source c.args.arguments.now.design.now (option_copied c.args.arguments.now.top) c.args.bytes.now) (λ ir. GivesOptimised ir) c.in_err-ir.field-0.0 c.in_err-ir.ensures.refused)

pub returns-clause-gives : goal.returns-clause-gives
returns-clause-gives c = goes_on c.in_ok-ir.ir (Ok c.in_ok-text.text.items) c.in_ok-ir.ensures.gives c.in_ok-text.ensures
