use Rattle.std.proofs.Common.{◌≡◌, map}
use Rattle.net_core.specs.Inner.Making.{stream_in}
use Rattle.net_core.proofs.config.streams.Given as goal

abbrev pub invariant-loop-channel : goal.invariant-loop-channel
invariant-loop-channel l = l.streams.items ≡ map stream_in l.yielded
