use Rattle.std.proofs.Common.{◌∙◌, ap, map, sym, subst}
use Rattle.std.proofs.lemmas.Result.{IfOk-weaker}
use Rattle.net_core.specs.WellFormed.{AreBehaviorsOf, IsInputs}
use Rattle.dslx_interp.specs.Network.DslxBodies.{behavior_of}
use Rattle.xls_cmd.proofs.OnDesign.Steps.{shown_of}
use Rattle.xls_cmd.proofs.design.run.run_design_alone.Goals as goal

pub made_network-requires : goal.made_network-requires
made_network-requires c = c.requires.fits.design

pub run_text_alone-requires-clause-net : goal.run_text_alone-requires-clause-net
run_text_alone-requires-clause-net c = c.in_ok-made.ensures.fits

pub run_text_alone-requires-clause-bodies : goal.run_text_alone-requires-clause-bodies
run_text_alone-requires-clause-bodies c =
    subst (AreBehaviorsOf c.in_ok-made.made.net) (sym (ap (map behavior_of) c.as_slice.ensures.value)) c.in_ok-made.ensures.of_net

pub run_text_alone-requires-clause-inputs : goal.run_text_alone-requires-clause-inputs
run_text_alone-requires-clause-inputs c = subst (λ n. IsInputs n c.args.ready.now.inputs.words) (sym c.in_ok-made.ensures.network) c.requires.fits.inputs

pub returns : goal.returns
returns c =
    let made = c.in_ok-made.made in
    let inputs = c.args.ready.now.inputs in
    IfOk-weaker c.run_text_alone.result _ _
    (λ text is. is ∙ ap (λ b. shown_of made.net b inputs c.args.how) (ap (map behavior_of) c.as_slice.ensures.value)
    ∙ c.in_ok-made.ensures.shows inputs c.args.how (subst (λ n. IsInputs n inputs.words) (sym c.in_ok-made.ensures.network) c.requires.fits.inputs) c.is_number.ensures)
    c.run_text_alone.ensures
