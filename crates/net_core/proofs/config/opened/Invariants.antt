use Rattle.std.proofs.Common.{◌≡◌, map, take}
use Rattle.net_core.specs.Inner.Making.{opened_progress}
use Rattle.net_core.proofs.config.opened.Given as goal

abbrev pub invariant-loop-head : goal.invariant-loop-head
invariant-loop-head l = l.procs.items ≡ map opened_progress (take l.head-index l.heads)
