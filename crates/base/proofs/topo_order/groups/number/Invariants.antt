use Rattle.std.proofs.Common.{◌≡◌, drop, length}
use Rattle.base.specs.TopoOrder.Inner.Numbers.{all_numbered}
use Rattle.base.proofs.topo_order.groups.number.Given as goal

abbrev pub invariant-loop-thing : goal.invariant-loop-thing
invariant-loop-thing l = record {
  left : all_numbered (drop l.thing-index l.things) l.first l.numbers.items ≡ all_numbered l.things l.first l.initial.numbers.items;
  size : length l.numbers.items ≡ length l.initial.numbers.items;
}
