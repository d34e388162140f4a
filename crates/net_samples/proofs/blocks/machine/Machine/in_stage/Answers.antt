use Rattle.std.proofs.Common.{◌+◌, ◌-◌, ◌∙◌, ap, sym, arith, length, refl, []}
use Rattle.std.specs.Prelude.{map, slice_get}
use Rattle.block_stage.specs.Machine.Cycle.{brought}
use Rattle.block_stage.specs.Machine.Logic.{circuit_of}
use Rattle.net_samples.specs.Blocks.Samples.{site_of, stage_at}
use Rattle.net_samples.proofs.OnBlocks.Tables.{count_within}
use Rattle.net_samples.proofs.OnBlocks.Machines.{stage_walks, stage_idle}
use Rattle.net_samples.proofs.blocks.machine.Machine.in_stage.Goals.{then-stage-ge4-via-then-stage-ge4, then-stage-ge4-via-else-stage-ge4+then-not-flag}
use Rattle.net_samples.proofs.blocks.machine.Machine.in_stage.Goals as goal

pub returns-then-stage-ge4-clause-shows : goal.returns-then-stage-ge4-clause-shows
returns-then-stage-ge4-clause-shows c = λ opening now small shows l.
    elim c.then-stage-ge4.branch [
      | then-stage-ge4-via-then-stage-ge4 w ↦ absurd (let s = small.stages in let r = w.if-stage-ge4.true in omega (arith, s, r, l))
      | then-stage-ge4-via-else-stage-ge4+then-not-flag w ↦
          stage_idle (circuit_of c.args.logic.now) c.args.sample.now opening c.args.ports.now now c.args.stage c.stopped.result
          (sym (shows.full c.args.stage l) ∙ sym w.flag.ensures ∙ w.if-not-flag.true)
          (λ i. c.stopped.ensures.shows (map site_of c.args.sample.now.sites.now) i [] refl)
    ]

pub walk-requires : goal.walk-requires
walk-requires c =
    let n = length c.args.sample.now.sites.now in
    let a = c.first-from.ensures in
    let b = c.first-until.ensures in
    let d = c.saturating_sub.ensures in
    let s = count_within (λ i. stage_at (slice_get c.args.sample.now.sites.now i)) c.args.stage n in
    let r = count_within (λ i. stage_at (slice_get c.args.sample.now.sites.now i)) (c.args.stage + 1) n in
    omega (arith, a, b, d, s, r)

pub returns-clause-shows : goal.returns-clause-shows
returns-clause-shows c = λ opening now small shows l.
    let stage_entry = c.brought-stage_entry.ensures c.args.sample.now now shows l in
    stage_walks (circuit_of c.args.logic.now) c.args.sample.now opening c.args.ports.now now c.args.stage c.first-from.result c.saturating_sub.result c.walk.result
    (sym (shows.full c.args.stage l) ∙ sym c.flag.ensures ∙ c.if-not-flag.false)
    c.first-from.ensures
    (c.saturating_sub.ensures ∙ ap (λ n. n - c.first-from.result) c.first-until.ensures)
    (c.walk.ensures.shows now.done now.kept (brought now c.args.stage).state (brought now c.args.stage).got (record { is_done = shows.done; is_kept = shows.kept }) stage_entry.state stage_entry.got)
