use Rattle.std.proofs.Common.{ap, length, arith, subst, sym}
use Rattle.std.specs.Option.{option_copied}
use Rattle.dslx.specs.Texts.{GivesTree}
use Rattle.xls_cmd.specs.Shared.Done.{StopsBy}
use Rattle.xls_cmd.specs.Shared.Loads.{OfText, text_of}
use Rattle.xls_cmd.specs.Shared.Step.{Gives}
use Rattle.xls_cmd.proofs.Lemmas.Shared.{stops_in_first, err_handed}
use Rattle.xls_cmd.specs.Design.Commands.{ReadsModule}
use Rattle.xls_cmd.proofs.OnDesign.Steps.{design_is_read, stops_at_module, text_is_bytes}
use Rattle.xls_cmd.proofs.design.source.read_design.Goals as goal

pub returns-in_err-text-clause-refused : goal.returns-in_err-text-clause-refused
returns-in_err-text-clause-refused c =
    err_handed c.from_residual.result c.in_err-text.field-0.0 (StopsBy (ReadsModule c.args.name.now (option_copied c.args.top) c.args.bytes.now)) c.from_residual.ensures.1
    (stops_in_first (Gives (text_of c.args.name.now c.args.bytes.now)) (λ text. OfText c.args.name.now (GivesTree text (option_copied c.args.top))) c.in_err-text.field-0.0 c.in_err-text.ensures.refused)

pub design_of_text-requires : goal.design_of_text-requires
design_of_text-requires c = omega (arith, ap length (text_is_bytes c.args.name.now c.args.bytes.now c.in_ok-text.text.now c.in_ok-text.ensures.found))

pub returns-in-Ok-clause-reads : goal.returns-in-Ok-clause-reads
returns-in-Ok-clause-reads c = design_is_read c.args.name.now (option_copied c.args.top) c.args.bytes.now c.in_ok-text.text.now c.in-Ok.design c.in_ok-text.ensures.found c.in-Ok.ensures.accepted

pub returns-in-Err-clause-refused : goal.returns-in-Err-clause-refused
returns-in-Err-clause-refused c =
    subst (StopsBy (ReadsModule c.args.name.now (option_copied c.args.top) c.args.bytes.now)) (sym c.of_text.ensures)
    (stops_at_module c.args.name (option_copied c.args.top) c.args.bytes.now c.in_ok-text.text.now c.in-Err.error c.in_ok-text.ensures.found c.in-Err.ensures.refused)
