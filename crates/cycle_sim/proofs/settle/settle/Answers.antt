use Rattle.std.proofs.Common.{◌≡◌, ◌∙◌, ℕ, length, slice_index_or}
use Rattle.cycle_sim.proofs.Settling.{sound_still, sound_at, take_keeps, turn}
use Rattle.cycle_sim.proofs.settle.settle.Goals as goal

pub take-requires : goal.take-requires
take-requires c =
    let place : ℕ = slice_index_or c.args.indices.now c.loop-place.place-index 0 in
    sound_still c.args.values.now c.loop-place.values c.index-assignments-place.result c.loop-place.auto.values c.loop-place.invariant.widths
    (sound_at c.args.assignments.now c.args.values.now place c.index-assignments-place.result c.requires.sound
    (c.requires.indices c.loop-place.place-index 0 c.loop-place-test.true) c.index-assignments-place.is)

pub loop-place-preserved : goal.loop-place-preserved
loop-place-preserved c =
    let place : ℕ = slice_index_or c.args.indices.now c.loop-place.place-index 0 in
    let known = c.requires.indices c.loop-place.place-index 0 c.loop-place-test.true in
    let sound = sound_still c.args.values.now c.loop-place.values c.index-assignments-place.result c.loop-place.auto.values c.loop-place.invariant.widths
    (sound_at c.args.assignments.now c.args.values.now place c.index-assignments-place.result c.requires.sound known c.index-assignments-place.is) in
    record {
      left = turn c.args.assignments.now c.args.indices.now c.loop-place.place-index c.index-assignments-place.result c.loop-place.values c.take.new.values
          c.loop-place-test.true known c.index-assignments-place.is c.take.ensures
          ∙ c.loop-place.invariant.left;
      widths = rw c.take.ensures (take_keeps c.loop-place.values c.index-assignments-place.result sound ∙ c.loop-place.invariant.widths);
    }
