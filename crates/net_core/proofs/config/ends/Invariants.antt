use Rattle.std.proofs.Common.{◌≡◌, length}
use Rattle.base.specs.Lists.Indexed.{indexed}
use Rattle.net_core.specs.Inner.Making.{end_with}
use Rattle.net_core.proofs.config.ends.Given as goal

abbrev pub invariant-loop-progress : goal.invariant-loop-progress
invariant-loop-progress l = (l.p ≡ length l.yielded) × (l.ends.items ≡ indexed (end_with l.stalls) 0 l.yielded)
