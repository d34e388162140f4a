use Rattle.std.proofs.Common.{◌≡◌, ◌<◌, ◌≤◌, ◌∙◌, length, length-set, ap, sym, refl, arith}
use Rattle.std.specs.Prelude.{slice_get}
use Rattle.vlog_tree.specs.Rows.{outs_of}
use Rattle.vlog_tree.specs.Settled.{values_of}
use Rattle.cycle_sim.proofs.OnCycles.Written.{move_more, moved_end, read_at}
use Rattle.cycle_sim.proofs.cycles.moved.move_all.Goals as goal

pub channels-preserved : goal.channels-preserved
channels-preserved c =
    let i = c.channels.channel in
    let given = c.as_slice-drives.result.now in
    let moved = c.channels.moved.items in
    let drives : length c.as_slice-drives.result.now ≡ length c.args.row.now.channels = ap length c.as_slice-drives.ensures in
    let in_given : c.channels.channel < length c.as_slice-drives.result.now = omega arith in
    let in_moved : c.channels.channel < length c.channels.moved.items = omega (arith, c.channels.invariant.size, c.requires.moved, c.requires.drives) in
    record {
      whole = move_more c.args.row.now.reset c.args.row.now.channels (outs_of c.args.sim.now.design (values_of c.args.sim.now.words)).channels moved _ _ i c.index-drives-channel.result c.shown.result c.index_mut.result.now c.move_at.new.words
          (ap (λ ds. slice_get ds i) (sym c.as_slice-drives.ensures) ∙ read_at given i c.index-drives-channel.result in_given c.index-drives-channel.is) c.shown.ensures
          (read_at moved i c.index_mut.result.now in_moved c.index_mut.ensures.value) c.in_ok-move_at.ensures refl c.channels.invariant.whole;
      size = length-set moved i c.move_at.new.words ∙ c.channels.invariant.size;
    }

pub returns : goal.returns
returns c =
    let drives : length c.as_slice-drives.result.now ≡ length c.args.row.now.channels = ap length c.as_slice-drives.ensures in
    let past : length c.args.row.now.channels ≤ c.channels.channel = omega arith in
    let also : length c.channels.moved.items ≤ c.channels.channel = omega (arith, c.channels.invariant.size, c.requires.moved, c.requires.drives) in
    moved_end c.args.row.now.reset c.args.row.now.channels (outs_of c.args.sim.now.design (values_of c.args.sim.now.words)).channels c.channels.moved.items _ c.channels.channel past also c.channels.invariant.whole
