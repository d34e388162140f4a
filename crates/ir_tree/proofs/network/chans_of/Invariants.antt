use Rattle.std.proofs.Common.{◌≡◌, take, map}
use Rattle.ir_tree.specs.Networks.{chan_of}
use Rattle.ir_tree.proofs.network.chans_of.Given as goal

abbrev pub invariant-channels : goal.invariant-channels
invariant-channels l = l.chans.items ≡ map chan_of (take l.channel-index l.channels)
