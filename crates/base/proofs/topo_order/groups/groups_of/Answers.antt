use Rattle.base.proofs.OnTopoOrder.Numbering.{all_numbers}
use Rattle.base.proofs.topo_order.groups.groups_of.Goals as goal

pub returns : goal.returns
returns c = all_numbers c.args.needs.now _ _ c.in_ok-groups.ensures.numbers c.in_ok-groups.ensures.done
