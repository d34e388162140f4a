use Rattle.std.proofs.Common.{length}
use Rattle.base.proofs.OnTopoOrder.Closing.{IsJoining}
use Rattle.base.proofs.topo_order.groups.join.Given as goal

abbrev pub invariant-loop-start : goal.invariant-loop-start
invariant-loop-start l = IsJoining l.initial.starts.items l.starts.items l.at

abbrev pub decreases-loop-start : goal.decreases-loop-start
decreases-loop-start l = length l.starts.items
