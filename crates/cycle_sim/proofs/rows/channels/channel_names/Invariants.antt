use Rattle.std.proofs.Common.{◌≡◌, ◌++◌, length}
use Rattle.vlog_tree.specs.Signals.{channels_at, channels_of}
use Rattle.cycle_sim.specs.Rows.Said.{names_of}
use Rattle.cycle_sim.proofs.rows.channels.channel_names.Given as goal

abbrev pub invariant-channels : goal.invariant-channels
invariant-channels l = l.names ++ names_of (channels_at l.left) ≡ names_of (channels_of l.design)

abbrev pub decreases-channels : goal.decreases-channels
decreases-channels l = length l.left
