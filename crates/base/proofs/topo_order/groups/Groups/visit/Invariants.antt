-- the groups stand, with the root begun, and what was done at first still done
use Rattle.std.proofs.Common.{◌≢◌, ◌+◌, ◌*◌, length}
use Rattle.base.specs.declared.topo_order.walk.Mark.TheVariants.{New}
use Rattle.base.specs.TopoOrder.Inner.Walk.{mark_of, StayDone}
use Rattle.base.specs.TopoOrder.Inner.Work.{needs_left}
use Rattle.base.specs.TopoOrder.Inner.Groups.{IsGroups}
use Rattle.base.specs.TopoOrder.Inner.Numbers.{AreNumbered}
use Rattle.base.proofs.topo_order.groups.Groups.visit.Given as goal

abbrev pub invariant-loop-top : goal.invariant-loop-top
invariant-loop-top l = record {
  walk : IsGroups l.needs l.self;
  numbers : AreNumbered l.needs l.self;
  begun : mark_of l.self.marks.items l.root ≢ New;
  done : StayDone l.fn.self.marks.items l.self.marks.items;
}

abbrev pub decreases-loop-top : goal.decreases-loop-top
decreases-loop-top l = 2 * needs_left l.needs l.self.taken.items + length l.self.path.items
