use Rattle.std.proofs.Common.{◌≡◌, take}
use Rattle.ir_lower.specs.Inner.Made.{types_of_chans, types_of_channels}
use Rattle.ir_lower.proofs.channels.channels_of.Given as goal

abbrev pub invariant-chans : goal.invariant-chans
invariant-chans l = types_of_channels l.channels.items ≡ types_of_chans (take l.chan-index l.chans)
