use Rattle.std.proofs.Common.{◌≡◌, ◌∙◌, sym, ap, true, List}
use Rattle.std.specs.List.{list_all}
use Rattle.net_core.specs.declared.net.Chan.{Chan}
use Rattle.net_core.specs.declared.net.ProcHead.{ProcHead}
use Rattle.net_samples.specs.Checks.{chan_fits, each_fits}
use Rattle.net_samples.proofs.CheckLaws.{are_behaviors}
use Rattle.net_samples.proofs.checks.bodies_fit.Goals as goal

pub returns-then-chans_fit : goal.returns-then-chans_fit
returns-then-chans_fit c h =
    let chans : list_all chan_fits c.args.net.now.chans ≡ true = ap (λ (cs : List Chan). list_all chan_fits cs) (sym c.as_slice.ensures) ∙ (sym c.chans_fit.ensures ∙ c.if-chans_fit.true) in
    let each : each_fits c.args.net.now.procs c.args.samples.now ≡ true = ap (λ (hs : List ProcHead). each_fits hs c.args.samples.now) (sym c.as_slice-then-chans_fit.ensures) ∙ (sym c.each_fits.ensures ∙ h) in
    are_behaviors c.args.net.now c.args.samples.now chans each
