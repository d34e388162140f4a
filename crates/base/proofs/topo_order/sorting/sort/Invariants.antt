-- a walk with an empty path, which has done with the things so far
use Rattle.std.proofs.Common.{◌≡◌, ◌<◌, ℕ, []}
use Rattle.base.specs.declared.topo_order.walk.Mark.TheVariants.{Done}
use Rattle.base.specs.TopoOrder.Inner.Walk.{IsWalk, mark_of}
use Rattle.base.proofs.topo_order.sorting.sort.Given as goal

abbrev pub invariant-loop-thing : goal.invariant-loop-thing
invariant-loop-thing l = record {
  walk : IsWalk l.needs l.walk.marks.items l.walk.taken.items l.walk.path.items l.walk.order.items;
  empty : l.walk.path.items ≡ [];
  done : (i : ℕ) → i < l.thing → mark_of l.walk.marks.items i ≡ Done;
}
