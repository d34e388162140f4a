use Rattle.std.proofs.Common.{None, sym, ap, subst, ◌∙◌}
use Rattle.dslx_meaning.specs.Network.{behaviors_of, network_of}
use Rattle.ir_lower.specs.Deep.{receives_deep}
use Rattle.xls_cmd.specs.Gen.Commands.{gen_name}
use Rattle.xls_cmd.specs.Lowered.Commands.{LowersModule, lowers}
use Rattle.xls_cmd.specs.Shared.Done.{StopsBy}
use Rattle.xls_cmd.specs.Shared.Loads.{OfText}
use Rattle.xls_cmd.proofs.Lemmas.Shared.{stops_at_text}
use Rattle.xls_cmd.proofs.OnLowered.Steps.{refuses_lowering}
use Rattle.xls_cmd.proofs.generate.source.lowered.Goals as goal

pub lower-requires : goal.lower-requires
lower-requires c = c.accepted_texts_run.ensures.linked c.requires.text c.requires.top c.args.design c.requires.made

pub returns-in-Ok-clause-gives : goal.returns-in-Ok-clause-gives
returns-in-Ok-clause-gives c = λ m from.
    let runs = c.accepted_texts_run.ensures.runs m None c.args.design from.accepted from.is.made from.is.checked in
    lowers c.in-Ok.ir (ap receives_deep (sym runs.network) ∙ c.in-Ok.ensures.shallow) c.in-Ok.ensures.lowered.verified
    (c.packages_mean_the_text.ensures c.args.design c.in-Ok.ir (network_of m None) (behaviors_of m None) c.in-Ok.ensures.lowered runs.network runs.alike)

pub returns-in-Ok-clause-verified : goal.returns-in-Ok-clause-verified
returns-in-Ok-clause-verified c = c.in-Ok.ensures.lowered.verified

pub returns-clause-refused : goal.returns-clause-refused
returns-clause-refused c = λ m from.
    let runs = c.accepted_texts_run.ensures.runs m None c.args.design from.accepted from.is.made from.is.checked in
    subst (StopsBy (OfText gen_name (LowersModule m None))) (sym c.of_text.ensures)
    (stops_at_text _ (LowersModule m None) c.in-Err.error (refuses_lowering m None c.args.design c.in-Err.error runs.network c.in-Err.ensures.refused))
