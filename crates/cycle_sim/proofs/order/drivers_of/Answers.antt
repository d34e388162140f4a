use Rattle.std.proofs.Common.{◌≡◌, ◌∙◌, ◌<◌, length, length-set, add-one, sym, ap, Some, get_or, subst, take}
use Rattle.std.specs.Prelude.{slice_set, slice_get}
use Rattle.std.proofs.lemmas.Option.{slice_get-get_or}
use Rattle.cycle_sim.specs.Drivers.{AreDrivers}
use Rattle.cycle_sim.proofs.NewOrder.{one_more_driver}
use Rattle.cycle_sim.proofs.order.drivers_of.Goals as goal

pub loop-i-preserved : goal.loop-i-preserved
loop-i-preserved c =
    let a = c.index-assignments-i.result in
    let is_a : slice_get c.args.assignments.now c.loop-i.i ≡ Some a = slice_get-get_or c.args.assignments.now c.loop-i.i a c.loop-i-test.true ∙ ap Some (sym c.index-assignments-i.is) in
    let known : a.target.0 < c.args.count = subst (λ b. b.target.0 < c.args.count) (sym c.index-assignments-i.is) (c.requires.targets c.loop-i.i a c.loop-i-test.true) in
    let inside : a.target.0 < length c.loop-i.drivers.items = rw c.loop-i.invariant.size known in
    record {
      size = length-set c.loop-i.drivers.items a.target.0 (Some c.loop-i.i) ∙ c.loop-i.invariant.size;
      drivers = rw add-one (one_more_driver c.args.assignments.now c.loop-i.i c.loop-i.drivers.items a c.loop-i.invariant.drivers is_a inside);
    }
