use Rattle.std.proofs.Common.{◌≡◌, map, take}
use Rattle.dslx_core.specs.Designs.{chan_of_outer}
use Rattle.dslx_interp.proofs.network.channels.outer_chans.Given as goal

abbrev pub invariant-outer : goal.invariant-outer
invariant-outer l = l.chans.items ≡ map chan_of_outer (take l.channel-index l.outer)
