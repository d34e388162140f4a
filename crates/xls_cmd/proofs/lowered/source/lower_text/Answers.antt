use Rattle.std.proofs.Common.{Ok, sym, ap, subst, ◌∙◌}
use Rattle.std.specs.Option.{option_copied}
use Rattle.dslx_meaning.specs.Network.{behaviors_of, network_of}
use Rattle.ir_lower.specs.Deep.{receives_deep}
use Rattle.xls_cmd.specs.Shared.Done.{StopsBy, text_refusal}
use Rattle.xls_cmd.specs.Shared.Loads.{OfText, accepts}
use Rattle.xls_cmd.specs.Shared.Step.{goes_on}
use Rattle.xls_cmd.specs.Design.Commands.{ReadsModule}
use Rattle.xls_cmd.specs.Lowered.Commands.{LowersModule, LowersText, lowers}
use Rattle.xls_cmd.proofs.Lemmas.Shared.{stops_at_text, stops_in_first, stops_in_next, err_handed}
use Rattle.xls_cmd.proofs.OnLowered.Steps.{refuses_lowering}
use Rattle.xls_cmd.proofs.lowered.source.lower_text.Goals as goal

pub returns-in_err-design-clause-refused : goal.returns-in_err-design-clause-refused
returns-in_err-design-clause-refused c =
    let top = option_copied c.args.top in
    err_handed c.from_residual.result c.in_err-design.field-0.0 (StopsBy (LowersText c.args.name.now top c.args.bytes.now)) c.from_residual.ensures.1
    (stops_in_first (ReadsModule c.args.name.now top c.args.bytes.now) (λ m. OfText c.args.name.now (LowersModule m top)) c.in_err-design.field-0.0 c.in_err-design.ensures.refused)

pub lower-requires : goal.lower-requires
lower-requires c =
    let is = c.in_ok-design.ensures.reads in
    c.accepted_texts_run.ensures.linked is.tree (option_copied c.args.top) c.in_ok-design.design is.is.made

pub returns-in-Ok-clause-gives : goal.returns-in-Ok-clause-gives
returns-in-Ok-clause-gives c =
    let is = c.in_ok-design.ensures.reads in
    let top = option_copied c.args.top in
    let runs = c.accepted_texts_run.ensures.runs is.tree top c.in_ok-design.design is.accepted is.is.made is.is.checked in
    goes_on is.tree (Ok c.in-Ok.ir) is.reads
    (accepts c.in-Ok.ir
    (lowers c.in-Ok.ir (ap receives_deep (sym runs.network) ∙ c.in-Ok.ensures.shallow) c.in-Ok.ensures.lowered.verified
    (c.packages_mean_the_text.ensures c.in_ok-design.design c.in-Ok.ir (network_of is.tree top) (behaviors_of is.tree top) c.in-Ok.ensures.lowered runs.network runs.alike)))

pub returns-in-Ok-clause-verified : goal.returns-in-Ok-clause-verified
returns-in-Ok-clause-verified c = c.in-Ok.ensures.lowered.verified

pub returns-clause-refused : goal.returns-clause-refused
returns-clause-refused c =
    let is = c.in_ok-design.ensures.reads in
    let top = option_copied c.args.top in
    let runs = c.accepted_texts_run.ensures.runs is.tree top c.in_ok-design.design is.accepted is.is.made is.is.checked in
    subst (StopsBy (LowersText c.args.name.now top c.args.bytes.now)) (sym c.of_text.ensures)
    (stops_in_next (ReadsModule c.args.name.now top c.args.bytes.now) (λ m. OfText c.args.name.now (LowersModule m top)) is.tree (text_refusal c.args.name c.in-Err.error) is.reads
    (stops_at_text c.args.name (LowersModule is.tree top) c.in-Err.error (refuses_lowering is.tree top c.in_ok-design.design c.in-Err.error runs.network c.in-Err.ensures.refused)))
