use Rattle.std.proofs.Common.{◌≡◌, drop, length}
use Rattle.base.specs.TopoOrder.Inner.Groups.{all_done}
use Rattle.base.proofs.topo_order.groups.finish.Given as goal

abbrev pub invariant-loop-thing : goal.invariant-loop-thing
invariant-loop-thing l = record {
  left : all_done (drop l.thing-index l.things) l.marks.items ≡ all_done l.things l.initial.marks.items;
  size : length l.marks.items ≡ length l.initial.marks.items;
}
