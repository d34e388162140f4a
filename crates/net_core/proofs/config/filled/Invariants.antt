use Rattle.std.proofs.Common.{◌≡◌, take}
use Rattle.base.specs.Lists.Indexed.{indexed}
use Rattle.net_core.specs.Inner.Making.{filled_channel}
use Rattle.net_core.proofs.config.filled.Given as goal

abbrev pub invariant-loop-c : goal.invariant-loop-c
invariant-loop-c l = l.channels.items ≡ indexed (filled_channel l.inputs l.depths) 0 (take l.c l.chans)
