use Rattle.std.proofs.Common.{arith}
use Rattle.base.proofs.OnTopoOrder.Closing.{join_goes_on}
use Rattle.base.proofs.topo_order.groups.join.Goals as goal

pub loop-start-preserved : goal.loop-start-preserved
loop-start-preserved c =
    join_goes_on c.args.starts.now.items c.loop-start.starts.items c.pop_start.new.starts.items c.args.at c.in-Some.start c.loop-start.invariant c.pop_start.ensures (omega (arith, c.if-start-at.false))
