use Rattle.std.proofs.Common.{arith}
use Rattle.base.proofs.OnTopoOrder.Stepping.{order_of_all}
use Rattle.base.proofs.topo_order.sorting.sort.Goals as goal

pub returns : goal.returns
returns c = order_of_all _ _ _ _ _ c.loop-thing.invariant.walk (λ i inside. c.loop-thing.invariant.done i (omega (arith, inside)))
