use Rattle.std.proofs.Common.{◌∙◌, ap, arith, get_or, None}
use Rattle.std.specs.Prelude.{slice_get}
use Rattle.block_stage.specs.Machine.Circuits.{stage_by}
use Rattle.block_stage.specs.Machine.Logic.{circuit_of}
use Rattle.net_samples.specs.Blocks.Samples.{pipeline_of, ports_of, stage_at}
use Rattle.net_samples.specs.Blocks.Shows.{taken_at}
use Rattle.net_samples.proofs.OnBlocks.Tables.{chan_is}
use Rattle.net_samples.proofs.OnBlocks.Machines.{keep_is}
use Rattle.net_samples.proofs.blocks.machine.Machine.site_kept.Goals as goal

pub returns : goal.returns
returns c = λ opening now small shows l.
    let sites = c.args.sample.now.sites.now in
    let stage_of = stage_by (circuit_of c.args.logic.now) (pipeline_of c.args.sample.now opening) now (ports_of c.args.ports.now) in
    let stage = c.stage.ensures in
    let walk = c.in_stage-walk.ensures.shows opening now small shows (rw stage (small.within c.args.place l)) in
    let kept = c.kept_at-kept.ensures ∙ shows.kept c.args.place l in
    let took = c.valid_word_at.ensures ∙ walk.took c.args.place (let s = small.sites in omega (arith, l, s)) ∙ ap (λ j. taken_at c.args.place (stage_of j).transfers) stage in
    let valid_word = c.valid_word_at-valid_word.ensures ∙ ap (λ k. get_or c.args.ports.now.valid_word k None) (c.chan.ensures ∙ chan_is sites c.args.place) in
    c.keep.ensures ∙ (rw (kept, took, valid_word) (keep_is c.args.logic.now.keeps (now.kept c.args.place) _ c.args.place (stage_of (stage_at (slice_get sites c.args.place))).transfers))
