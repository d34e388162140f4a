use Rattle.std.proofs.Common.{length}
use Rattle.vlog_tree.specs.Signals.{channels_of}
use Rattle.cycle_sim.proofs.OnRows.Known.{AreSoFar}
use Rattle.cycle_sim.proofs.rows.channels.Channels.of.Given as goal

abbrev pub invariant-channels : goal.invariant-channels
invariant-channels l = AreSoFar (channels_of l.design) l.left l.numbers l.shapes.items

abbrev pub decreases-channels : goal.decreases-channels
decreases-channels l = length l.left
