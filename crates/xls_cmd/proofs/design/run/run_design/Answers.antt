use denote.Param.Send.{sendable}
use Rattle.std.proofs.Common.{◌∙◌, ap, map, sym, subst}
use Rattle.std.proofs.lemmas.Result.{IfOk-weaker}
use Rattle.net_core.specs.WellFormed.{AreBehaviorsOf, IsInputs}
use Rattle.dslx_interp.specs.Network.DslxBodies.{behavior_of}
use Rattle.dslx_interp.proofs.Lemmas.Threads.Shared.{design_field, instance_field}
use Rattle.xls_cmd.proofs.OnDesign.Steps.{shown_of}
use Rattle.xls_cmd.proofs.design.run.run_design.Goals as goal

pub made_network-requires : goal.made_network-requires
made_network-requires g c = c.requires.fits.design

pub run_text-requires-sync-B : goal.run_text-requires-sync-B
run_text-requires-sync-B g c κs within = let a = design_field in let b = instance_field in search sendable depth 20

pub run_text-requires-clause-net : goal.run_text-requires-clause-net
run_text-requires-clause-net g c κs within = c.in_ok-made.ensures.fits

pub run_text-requires-clause-bodies : goal.run_text-requires-clause-bodies
run_text-requires-clause-bodies g c κs within =
    subst (AreBehaviorsOf c.in_ok-made.made.net) (sym (ap (map behavior_of) c.as_slice.ensures.value)) c.in_ok-made.ensures.of_net

pub run_text-requires-clause-inputs : goal.run_text-requires-clause-inputs
run_text-requires-clause-inputs g c κs within = subst (λ n. IsInputs n c.args.ready.now.inputs.words) (sym c.in_ok-made.ensures.network) c.requires.fits.inputs

pub returns : goal.returns
returns g c =
    let made = c.in_ok-made.made in
    let inputs = c.args.ready.now.inputs in
    IfOk-weaker c.run_text.result _ _
    (λ text is. is ∙ ap (λ b. shown_of made.net b inputs c.args.how) (ap (map behavior_of) c.as_slice.ensures.value)
    ∙ c.in_ok-made.ensures.shows inputs c.args.how (subst (λ n. IsInputs n inputs.words) (sym c.in_ok-made.ensures.network) c.requires.fits.inputs) c.is_number.ensures)
    c.run_text.ensures
