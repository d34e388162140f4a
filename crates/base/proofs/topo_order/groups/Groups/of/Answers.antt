use borrow.Author.Count.{below_more}
use Rattle.std.proofs.Common.{◌≡◌, ℕ, arith}
use Rattle.base.specs.declared.topo_order.walk.Mark.TheVariants.{Done}
use Rattle.base.specs.TopoOrder.Inner.Walk.{mark_of}
use Rattle.base.proofs.OnTopoOrder.Gathering.{grouping_starts}
use Rattle.base.proofs.OnTopoOrder.Numbering.{numbering_starts}
use Rattle.base.proofs.topo_order.groups.Groups.of.Goals as goal

pub loop-thing-init : goal.loop-thing-init
loop-thing-init c =
    let told = c.in_ok-groups.ensures in
    record {
      walk = grouping_starts c.args.needs.now _ _ _ _ _ _ _ told.marks told.taken told.positions told.path told.stack told.starts told.loops;
      numbers = numbering_starts c.args.needs.now _ _ told.marks told.numbers;
      empty = told.path;
      done = λ i low. absurd (omega (arith, low));
    }

pub loop-thing-preserved : goal.loop-thing-preserved
loop-thing-preserved c =
    let told = c.in_ok-go_on.ensures in
    record {
      walk = told.walk;
      numbers = told.numbers;
      empty = told.empty;
      done = below_more (λ (k : ℕ). mark_of c.go_on.new.self.marks.items k ≡ Done) c.loop-thing.thing (λ k low. told.more k (c.loop-thing.invariant.done k low)) told.done;
    }
