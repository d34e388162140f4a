use Rattle.std.proofs.Common.{◌≡◌, drop, length}
use Rattle.base.specs.TopoOrder.Inner.Groups.{all_flagged}
use Rattle.base.proofs.topo_order.groups.flag.Given as goal

abbrev pub invariant-loop-thing : goal.invariant-loop-thing
invariant-loop-thing l = record {
  left : all_flagged (drop l.thing-index l.things) l.loops.items ≡ all_flagged l.things l.initial.loops.items;
  size : length l.loops.items ≡ length l.initial.loops.items;
}
