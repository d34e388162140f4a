use Rattle.std.proofs.Common.{Ok}
use Rattle.std.specs.Option.{option_copied}
use Rattle.xls_cmd.specs.Shared.Done.{StopsBy}
use Rattle.xls_cmd.specs.Shared.Step.{goes_on}
use Rattle.xls_cmd.specs.Lowered.Commands.{LowersText, OptimisesPackage, OptimisesText, optimises}
use Rattle.xls_cmd.proofs.Lemmas.Shared.{stops_in_first, err_handed}
use Rattle.xls_cmd.proofs.lowered.source.optimise_text.Goals as goal

pub returns-in_err-ir-clause-refused : goal.returns-in_err-ir-clause-refused
returns-in_err-ir-clause-refused c =
    err_handed c.from_residual.result c.in_err-ir.field-0.0 (StopsBy (OptimisesText c.args.name.now (option_copied c.args.top) c.args.bytes.now)) c.from_residual.ensures.1
    (stops_in_first (LowersText c.args.name.now (option_copied c.args.top) c.args.bytes.now) (λ ir. OptimisesPackage ir) c.in_err-ir.field-0.0 c.in_err-ir.ensures.refused)

pub returns-clause-gives : goal.returns-clause-gives
returns-clause-gives c = goes_on c.in_ok-ir.ir (Ok c.in_ok-new.new) c.in_ok-ir.ensures.gives (optimises c.in_ok-new.new c.in_ok-new.ensures)

pub returns-clause-verified : goal.returns-clause-verified
returns-clause-verified c = c.in_ok-new.ensures.verified
