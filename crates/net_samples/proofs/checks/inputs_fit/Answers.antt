use Rattle.std.proofs.Common.{◌≡◌, ◌∙◌, sym, ap, true, List}
use Rattle.std.specs.List.{list_all}
use Rattle.xb_bits.specs.Word.{Word}
use Rattle.net_core.specs.declared.net.Chan.{Chan}
use Rattle.net_samples.specs.Checks.{chan_fits, each_given}
use Rattle.net_samples.proofs.CheckLaws.{are_inputs}
use Rattle.net_samples.proofs.checks.inputs_fit.Goals as goal

pub returns-then-chans_fit : goal.returns-then-chans_fit
returns-then-chans_fit c h =
    let chans : list_all chan_fits c.args.net.now.chans ≡ true = ap (λ (cs : List Chan). list_all chan_fits cs) (sym c.as_slice.ensures) ∙ (sym c.chans_fit.ensures ∙ c.if-chans_fit.true) in
    let each : each_given c.args.net.now.chans c.args.inputs.now.words ≡ true =
    ap (λ (cs : List Chan). each_given cs c.args.inputs.now.words) (sym c.as_slice-then-chans_fit.ensures)
    ∙ (ap (λ (ws : List (List Word)). each_given c.as_slice-then-chans_fit.result.now ws) (sym c.as_slice-then-chans_fit-2.ensures) ∙ (sym c.each_given.ensures ∙ h)) in
    are_inputs c.args.net.now c.args.inputs.now.words chans each
