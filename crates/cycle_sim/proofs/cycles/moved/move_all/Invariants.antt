use Rattle.std.proofs.Common.{◌≡◌, ◌++◌, drop, take, length}
use Rattle.vlog_tree.specs.Rows.{outs_of}
use Rattle.vlog_tree.specs.Settled.{values_of}
use Rattle.cycle_sim.specs.Cycles.CycleText.{moved_by}
use Rattle.cycle_sim.proofs.cycles.moved.move_all.Given as goal

abbrev pub invariant-channels : goal.invariant-channels
invariant-channels l = record {
  whole : take l.channel l.moved.items ++ moved_by l.row.reset (drop l.channel l.row.channels) (drop l.channel (outs_of l.sim.design (values_of l.sim.words)).channels) (drop l.channel l.moved.items)
      ≡ moved_by l.row.reset l.row.channels (outs_of l.sim.design (values_of l.sim.words)).channels l.initial.moved.items;
  size : length l.moved.items ≡ length l.initial.moved.items;
}
