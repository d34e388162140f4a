use Rattle.std.proofs.Common.{◌≡◌, ◌++◌, map, take}
use Rattle.dslx_core.specs.Designs.{made_of}
use Rattle.dslx_interp.proofs.network.channels.push_made.Given as goal

abbrev pub invariant-made : goal.invariant-made
invariant-made l = l.chans.items ≡ l.initial.chans.items ++ map (made_of l.path) (take l.channel-index l.made)
