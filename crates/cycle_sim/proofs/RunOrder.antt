-- What is known of the drivers of a module that can run.
use Rattle.std.proofs.Common.{◌≡◌, ℕ, ◌<◌, List, [], ◌∷◌, ◌++◌, length, map, sym, ap, ◌∙◌, subst, Option, Some, All, slice_index_or, arith}
use Rattle.std.specs.Prelude.{slice_get}
use Rattle.std.specs.List.{AllByRecursion}
use Rattle.std.proofs.lemmas.List.Elements.{recursion_from_All}
use Rattle.std.proofs.lemmas.Option.{slice_get_within, get_or_from_slice_get}
use Rattle.base.specs.TopoOrder.Needs.{AreClosed, IsOrderOf}
use Rattle.base.specs.TopoOrder.Needs as graph
use Rattle.vlog_tree.specs.declared.module.VModule.{VModule}
use Rattle.vlog_tree.specs.declared.module.Assignment.{Assignment}
use Rattle.vlog_tree.specs.Signals.{Declared, signals, declared_widths}
use Rattle.vlog_tree.specs.Forms.{reads}
use Rattle.vlog_tree.specs.Sound.{IsSoundAssignment}
use Rattle.vlog_tree.specs.WellFormed as wired
use Rattle.cycle_sim.specs.Drivers.{AreDrivers, needs_by}
use Rattle.cycle_sim.specs.Sim.{IsOrder}
use Rattle.cycle_sim.proofs.Reading.{AllBelow, reads_below}
use Rattle.cycle_sim.proofs.Ordering.{each_of_places}
use Rattle.cycle_sim.proofs.NewOrder.{order_stands, cycle_depends, needs_known, needs_closed}

-- each assignment of a module that can run is sound
sound_of : (m : VModule) → wired.CanRun m → (i : ℕ) (a : Assignment) → slice_get m.assignments i ≡ Some a → IsSoundAssignment (length (signals m)) (declared_widths m) a
sound_of m runs i a is = subst (IsSoundAssignment (length (signals m)) (declared_widths m)) (get_or_from_slice_get m.assignments i a a is) (runs.wired.assignments i a (slice_get_within m.assignments i a is))

pub reads_inside : (m : VModule) (count : ℕ) → wired.CanRun m → count ≡ length (signals m) → (i : ℕ) (a : Assignment) → slice_get m.assignments i ≡ Some a → AllByRecursion (λ s. s < count) (reads a.value)
reads_inside m count runs same i a is = subst (λ n. AllBelow n (reads a.value)) (sym same) (reads_below (length (signals m)) a.value (sound_of m runs i a is).value.known)

pub all_reads_inside : (m : VModule) (count : ℕ) → wired.CanRun m → count ≡ length (signals m) → All (λ a. AllByRecursion (λ s. s < count) (reads a.value)) m.assignments
all_reads_inside m count runs same k d h = subst (λ n. AllBelow n (reads (slice_index_or m.assignments k d).value)) (sym same) (reads_below (length (signals m)) (slice_index_or m.assignments k d).value (runs.wired.assignments k d h).value.known)

pub targets_inside : (m : VModule) (count : ℕ) → wired.CanRun m → count ≡ length (signals m) → AllByRecursion (λ a. a.target.0 < count) m.assignments
targets_inside m count runs same = each_of_places (λ a. a.target.0 < count) m.assignments (λ i a is. rw same (sound_of m runs i a is).target)

pub runs_closed : (m : VModule) (drivers : List (Option ℕ)) → wired.CanRun m → AreDrivers m.assignments drivers → length drivers ≡ length (signals m) → AreClosed (map (needs_by drivers) m.assignments)
runs_closed m drivers runs are same = needs_closed m.assignments drivers are (reads_inside m (length drivers) runs same)

pub runs_in_order : (m : VModule) (drivers : List (Option ℕ)) (order : List ℕ) → wired.CanRun m → AreDrivers m.assignments drivers → length drivers ≡ length (signals m)
    → IsOrderOf (map (needs_by drivers) m.assignments) order → IsOrder m order
runs_in_order m drivers order runs are same sorted = order_stands m drivers order runs are (targets_inside m (length drivers) runs same) sorted

pub runs_without_cycle : (m : VModule) (drivers : List (Option ℕ)) (i : ℕ) → wired.CanRun m → AreDrivers m.assignments drivers → length drivers ≡ length (signals m)
    → graph.Reaches (map (needs_by drivers) m.assignments) i i → ⊥
runs_without_cycle m drivers i runs are same reach =
    let known = first_need i i reach in
    runs.acyclic known.0.target.0 (cycle_depends m drivers i i known.0 known.0 are (reads_inside m (length drivers) runs same) reach known.1 known.1)
  where
    first_need : (a b : ℕ) → graph.Reaches (map (needs_by drivers) m.assignments) a b → (x : Assignment) × (slice_get m.assignments a ≡ Some x)
    first_need a b (graph.itself _ _ need) = needs_known m.assignments drivers a b need
    first_need a b (graph.by_way _ j _ need rest) = needs_known m.assignments drivers a j need
