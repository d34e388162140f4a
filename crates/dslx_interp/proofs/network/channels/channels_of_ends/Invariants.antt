use Rattle.std.proofs.Common.{◌≡◌, map, take}
use Rattle.dslx_core.specs.Designs.{channel_of_end}
use Rattle.dslx_interp.proofs.network.channels.channels_of_ends.Given as goal

abbrev pub invariant-ends : goal.invariant-ends
invariant-ends l = l.channels.items ≡ map (channel_of_end l.given l.number) (take l.end-index l.ends)
