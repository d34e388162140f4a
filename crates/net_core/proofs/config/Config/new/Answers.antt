use Rattle.std.proofs.Common.{◌<◌, ◌^◌, List, ap, ◌∙◌, refl, map, arith}
use Rattle.xb_bits.specs.Word.{Word}
use Rattle.net_core.specs.declared.net.ProcHead.{ProcHead}
use Rattle.net_core.specs.declared.net.Chan.{Chan}
use Rattle.base.specs.Lists.Indexed.{indexed}
use Rattle.net_core.specs.Inner.Making.{opened_progress, filled_channel}
use Rattle.net_core.proofs.Starts.{start_shows}
use Rattle.net_core.proofs.config.Config.new.Goals as goal

pub returns : goal.returns
returns c behaviors fit keep =
    let small : c.args.n < 2 ^ 32 = omega (arith, c.ranges.n) in
    let procs = c.in_ok-opened.ensures ∙ ap (λ (hs : List ProcHead). map opened_progress hs) c.as_slice.ensures in
    let channels = c.in_ok-filled.ensures
    ∙ (ap (λ (ws : List (List Word)). indexed (filled_channel ws c.args.depths.now) 0 c.as_slice-2.result.now) c.as_slice-3.ensures
    ∙ ap (λ (cs : List Chan). indexed (filled_channel c.args.inputs.now.words c.args.depths.now) 0 cs) c.as_slice-2.ensures) in
    start_shows c.args.net.now c.requires.net behaviors fit keep c.args.inputs.now.words c.requires.inputs c.args.n small c.args.depths.now _ procs channels refl
