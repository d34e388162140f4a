-- the groups stand with an empty path, and the things so far are done
use Rattle.std.proofs.Common.{◌≡◌, ◌<◌, ℕ, []}
use Rattle.base.specs.declared.topo_order.walk.Mark.TheVariants.{Done}
use Rattle.base.specs.TopoOrder.Inner.Walk.{mark_of}
use Rattle.base.specs.TopoOrder.Inner.Groups.{IsGroups}
use Rattle.base.specs.TopoOrder.Inner.Numbers.{AreNumbered}
use Rattle.base.proofs.topo_order.groups.Groups.of.Given as goal

abbrev pub invariant-loop-thing : goal.invariant-loop-thing
invariant-loop-thing l = record {
  walk : IsGroups l.needs l.groups;
  numbers : AreNumbered l.needs l.groups;
  empty : l.groups.path.items ≡ [];
  done : (i : ℕ) → i < l.thing → mark_of l.groups.marks.items i ≡ Done;
}
