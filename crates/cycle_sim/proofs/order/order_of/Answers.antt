use Rattle.std.proofs.Common.{◌≡◌, ◌∙◌, ℕ, length, All, List, map, sym, ap, subst, Option}
use Rattle.base.specs.TopoOrder.Needs.{AreClosed, IsOrderOf, Reaches}
use Rattle.base.specs.TopoOrder.Sorted.{IsSorting}
use Rattle.vlog_tree.specs.Signals.{signals}
use Rattle.cycle_sim.specs.Drivers.{AreDrivers, needs_by}
use Rattle.cycle_sim.proofs.RunOrder.{all_reads_inside, runs_closed, runs_in_order, runs_without_cycle}
use Rattle.cycle_sim.proofs.order.order_of.Goals as goal

pub needs_of-requires : goal.needs_of-requires
needs_of-requires c =
    let same : length c.deref.result.now ≡ length (signals c.args.design.now) = ap length c.deref.ensures.value ∙ c.in_ok-drivers.ensures.size ∙ c.requires.signals in
    rw c.as_slice-assignments.ensures (all_reads_inside c.args.design.now (length c.deref.result.now) c.requires.runs same)

pub sort-requires-clause-closed : goal.sort-requires-clause-closed
sort-requires-clause-closed c =
    let same : length c.deref.result.now ≡ length (signals c.args.design.now) = ap length c.deref.ensures.value ∙ c.in_ok-drivers.ensures.size ∙ c.requires.signals in
    let are = subst (AreDrivers c.args.design.now.assignments) (sym c.deref.ensures.value) (subst (λ given. AreDrivers given c.in_ok-drivers.drivers.items) c.as_slice-assignments.ensures c.in_ok-drivers.ensures.drivers) in
    let made : c.deref-2.result.now ≡ map (needs_by c.deref.result.now) c.args.design.now.assignments =
    c.deref-2.ensures.value ∙ c.in_ok-needs.ensures ∙ ap (map (needs_by c.deref.result.now)) c.as_slice-assignments.ensures in
    subst AreClosed (sym made) (runs_closed c.args.design.now c.deref.result.now c.requires.runs are same)

pub unreachable-requires : goal.unreachable-requires
unreachable-requires c =
    let same : length c.deref.result.now ≡ length (signals c.args.design.now) = ap length c.deref.ensures.value ∙ c.in_ok-drivers.ensures.size ∙ c.requires.signals in
    let are = subst (AreDrivers c.args.design.now.assignments) (sym c.deref.ensures.value) (subst (λ given. AreDrivers given c.in_ok-drivers.drivers.items) c.as_slice-assignments.ensures c.in_ok-drivers.ensures.drivers) in
    let made : c.deref-2.result.now ≡ map (needs_by c.deref.result.now) c.args.design.now.assignments =
    c.deref-2.ensures.value ∙ c.in_ok-needs.ensures ∙ ap (map (needs_by c.deref.result.now)) c.as_slice-assignments.ensures in
    let reach : Reaches c.deref-2.result.now c.in-Cycle.field-0 c.in-Cycle.field-0 = subst (IsSorting c.deref-2.result.now) c.in-Cycle.is c.in_ok-indices.ensures in
    runs_without_cycle c.args.design.now c.deref.result.now c.in-Cycle.field-0 c.requires.runs are same
    (subst (λ needs. Reaches needs c.in-Cycle.field-0 c.in-Cycle.field-0) made reach)

pub returns : goal.returns
returns c =
    let same : length c.deref.result.now ≡ length (signals c.args.design.now) = ap length c.deref.ensures.value ∙ c.in_ok-drivers.ensures.size ∙ c.requires.signals in
    let are = subst (AreDrivers c.args.design.now.assignments) (sym c.deref.ensures.value) (subst (λ given. AreDrivers given c.in_ok-drivers.drivers.items) c.as_slice-assignments.ensures c.in_ok-drivers.ensures.drivers) in
    let made : c.deref-2.result.now ≡ map (needs_by c.deref.result.now) c.args.design.now.assignments =
    c.deref-2.ensures.value ∙ c.in_ok-needs.ensures ∙ ap (map (needs_by c.deref.result.now)) c.as_slice-assignments.ensures in
    let sorted : IsOrderOf c.deref-2.result.now c.in-Order.indices.items = subst (IsSorting c.deref-2.result.now) c.in-Order.is c.in_ok-indices.ensures in
    runs_in_order c.args.design.now c.deref.result.now c.in-Order.indices.items c.requires.runs are same (subst (λ needs. IsOrderOf needs c.in-Order.indices.items) made sorted)
