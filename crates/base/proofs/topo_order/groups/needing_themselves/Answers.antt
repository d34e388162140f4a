use Rattle.base.proofs.OnTopoOrder.Gathering.{answered_all}
use Rattle.base.proofs.topo_order.groups.needing_themselves.Goals as goal

pub returns-clause-loops : goal.returns-clause-loops
returns-clause-loops c = answered_all c.args.needs.now _ _ _ _ _ _ _ c.in_ok-groups.ensures.walk c.in_ok-groups.ensures.done
