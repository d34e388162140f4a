use Rattle.std.proofs.Common.{◌≡◌, ◌<◌, ◌^◌, ◌∙◌, sym, ap, true, List, length, arith}
use Rattle.std.specs.List.{list_all}
use Rattle.net_core.specs.declared.net.Chan.{Chan}
use Rattle.net_core.specs.declared.net.ProcHead.{ProcHead}
use Rattle.net_samples.specs.Checks.{chan_fits, head_fits, own_ends, own_names}
use Rattle.net_samples.proofs.CheckLaws.{is_net}
use Rattle.net_samples.proofs.checks.net_fits.Goals as goal

pub returns : goal.returns
returns c h =
    let procs = c.as_slice-procs.ensures in
    let chans = c.as_slice-chans.ensures in
    let few_procs : length c.args.net.now.procs < 2 ^ 32 = omega (arith, ap length procs, c.if-procs.false) in
    let few_chans : length c.args.net.now.chans < 2 ^ 32 = omega (arith, ap length chans, c.if-chans.false) in
    let heads : list_all (head_fits c.args.net.now.chans) c.args.net.now.procs ≡ true =
    ap (λ (hs : List ProcHead). list_all (head_fits c.args.net.now.chans) hs) (sym procs)
    ∙ (ap (λ (cs : List Chan). list_all (head_fits cs) c.as_slice-procs.result.now) (sym chans) ∙ (sym c.heads_fit.ensures ∙ c.if-not-heads_fit.false)) in
    let kinds : list_all chan_fits c.args.net.now.chans ≡ true = ap (λ (cs : List Chan). list_all chan_fits cs) (sym chans) ∙ (sym c.chans_fit.ensures ∙ c.if-not-chans_fit.false) in
    let ends : own_ends c.args.net.now.procs ≡ true = ap (λ (hs : List ProcHead). own_ends hs) (sym procs) ∙ (sym c.own_ends.ensures ∙ c.if-not-own_ends.false) in
    let names : own_names c.args.net.now.chans ≡ true = ap (λ (cs : List Chan). own_names cs) (sym chans) ∙ (sym c.own_names.ensures ∙ h) in
    is_net c.args.net.now few_procs few_chans heads kinds ends names
