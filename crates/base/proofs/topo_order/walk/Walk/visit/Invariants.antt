-- the walk is one, with the root begun, and what was done at first still done
use Rattle.std.proofs.Common.{◌≢◌, ◌+◌}
use Rattle.base.specs.declared.topo_order.walk.Mark.TheVariants.{New}
use Rattle.base.specs.TopoOrder.Inner.Walk.{IsWalk, mark_of, StayDone}
use Rattle.base.specs.TopoOrder.Inner.Work.{needs_left, things_left}
use Rattle.base.proofs.topo_order.walk.Walk.visit.Given as goal

abbrev pub invariant-loop-top : goal.invariant-loop-top
invariant-loop-top l = record {
  walk : IsWalk l.needs l.self.marks.items l.self.taken.items l.self.path.items l.self.order.items;
  begun : mark_of l.self.marks.items l.root ≢ New;
  done : StayDone l.fn.self.marks.items l.self.marks.items;
}

abbrev pub decreases-loop-top : goal.decreases-loop-top
decreases-loop-top l = needs_left l.needs l.self.taken.items + things_left l.self.marks.items
