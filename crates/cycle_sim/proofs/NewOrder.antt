-- The order that sorting by needs gives is an order of a module's assignments.
use Rattle.std.proofs.Common.{◌≡◌, ◌≢◌, ℕ, zero, suc, ◌+◌, ◌<◌, List, [], ◌∷◌, ◌++◌, length, length-set, append_assoc, add-one, drop-cons, map, take, drop, refl, sym, ap, ◌∙◌, subst, ◌⊎◌, inl, inr, Option, Some, None, All, slice_index_or, get_or, arith}
use Rattle.std.proofs.lemmas.Bool.{cases_eq}
use Rattle.std.proofs.lemmas.List.{length-map, append-nil}
use Rattle.std.proofs.lemmas.List.Elements.{recursion_from_All}
use Rattle.std.specs.Prelude.{slice_get, slice_set, filter_map, unwrap_or, option_map, replicate}
use Rattle.std.specs.List.{AllByRecursion}
use Rattle.std.proofs.lemmas.Option.{slice_get_within, slice_get-get_or, get_or_from_slice_get, slice_get-map}
use Rattle.base.proofs.Lemmas.Lists.Indices.{slice_get-set, slice_get-set_other}
use Rattle.base.specs.TopoOrder.Needs.{Needs, needs_of, IsOrderOf, AreClosed}
use Rattle.base.specs.TopoOrder.Needs as graph
use Rattle.vlog_tree.specs.declared.module.VModule.{VModule}
use Rattle.vlog_tree.specs.declared.module.Assignment.{Assignment}
use Rattle.vlog_tree.specs.Forms.{reads}
use Rattle.vlog_tree.specs.Value.{Values, expr_value}
use Rattle.vlog_tree.specs.Meaning.{AreDriven}
use Rattle.vlog_tree.specs.Settled.{IsOrdered, IsUndriven}
use Rattle.vlog_tree.specs.WellFormed as wired
use Rattle.cycle_sim.specs.Ordered.{taken}
use Rattle.cycle_sim.specs.Drivers.{AreDrivers, driver_at, needs_by}
use Rattle.cycle_sim.specs.Sim.{IsOrder}
use Rattle.cycle_sim.proofs.Ordering.{StandsInOrder, ordered_of_places, each_of_places, place_of_each, taken_at, found_for, found_of}

-- a driver that is found, or none
driver_is : (drivers : List (Option ℕ)) (s : ℕ) → s < length drivers → slice_get drivers s ≡ Some (driver_at drivers s)
driver_is drivers s inside =
    let there = slice_get-get_or drivers s None inside in
    there ∙ ap Some (sym (ap (λ o. unwrap_or o None) there))

-- an assignment needs the one that drives what it reads
pub needs_driver : (assignments : List Assignment) (drivers : List (Option ℕ)) (i k j : ℕ) (a b : Assignment) → AreDrivers assignments drivers → wired.DriveApart assignments
    → slice_get assignments i ≡ Some a → slice_get assignments j ≡ Some b → slice_get (reads a.value) k ≡ Some b.target.0 → b.target.0 < length drivers
    → Needs (map (needs_by drivers) assignments) i j
needs_driver assignments drivers i k j a b are apart is_a is_b read inside = at (driver_at drivers b.target.0) refl
  where
    there : slice_get drivers b.target.0 ≡ Some (driver_at drivers b.target.0)
    there = driver_is drivers b.target.0 inside

    needs_here : needs_of (map (needs_by drivers) assignments) i ≡ needs_by drivers a
    needs_here = ap (λ o. unwrap_or o []) (slice_get-map (needs_by drivers) assignments i ∙ ap (option_map (needs_by drivers)) is_a)

    at : (o : Option ℕ) → driver_at drivers b.target.0 ≡ o → Needs (map (needs_by drivers) assignments) i j
    at None e = absurd (are.missed b.target.0 j b (there ∙ ap Some e) is_b refl)
    at (Some d) e =
        let driver = are.found b.target.0 d (there ∙ ap Some e) in
        let same : d ≡ j = apart d j driver.0 b driver.1 is_b driver.2 in
        let found = found_for (driver_at drivers) (reads a.value) k b.target.0 j read (e ∙ ap Some same) in
        (found.0, rw needs_here found.1)

-- what an assignment needs drives something that it reads
pub need_drives : (assignments : List Assignment) (drivers : List (Option ℕ)) (i j : ℕ) (a : Assignment) → AreDrivers assignments drivers → slice_get assignments i ≡ Some a
    → AllByRecursion (λ s. s < length drivers) (reads a.value) → Needs (map (needs_by drivers) assignments) i j
    → (k : ℕ) × (b : Assignment) × (slice_get assignments j ≡ Some b) × (slice_get (reads a.value) k ≡ Some b.target.0)
need_drives assignments drivers i j a are is_a inside (n, h) =
    let needs_here : needs_of (map (needs_by drivers) assignments) i ≡ needs_by drivers a = ap (λ o. unwrap_or o []) (slice_get-map (needs_by drivers) assignments i ∙ ap (option_map (needs_by drivers)) is_a) in
    let found = found_of (driver_at drivers) (reads a.value) n j (rw needs_here at h) in
    let s_inside = place_of_each (λ s. s < length drivers) (reads a.value) inside found.0 found.1 found.2 in
    let driver = are.found found.1 j (driver_is drivers found.1 s_inside ∙ ap Some found.3) in
    (found.0, driver.0, driver.1, found.2 ∙ ap Some (sym driver.2))

-- the order that sorting gives is one of the module's assignments
pub order_stands : (m : VModule) (drivers : List (Option ℕ)) (order : List ℕ) → wired.CanRun m → AreDrivers m.assignments drivers
    → AllByRecursion (λ a. a.target.0 < length drivers) m.assignments
    → IsOrderOf (map (needs_by drivers) m.assignments) order → IsOrder m order
order_stands m drivers order runs are inside sorted = record {
  within = λ p d h. let there = slice_get-get_or order p d h in same_size (sorted.within p (get_or order p d) there);
  ordered = ordered_of_places m.assignments order runs.apart stands;
  covers = covers;
  drives = drives;
}
  where
    same_size : {i : ℕ} → i < length (map (needs_by drivers) m.assignments) → i < length m.assignments
    same_size h = rw (← length-map m.assignments (needs_by drivers)) h

    stands : StandsInOrder m.assignments order
    stands = record {
      within = λ p i e. same_size (sorted.within p i e);
      once = sorted.once;
      before = before;
    }
      where
        before : (p q i j k : ℕ) (a b : Assignment) → slice_get order p ≡ Some i → slice_get order q ≡ Some j → slice_get m.assignments i ≡ Some a → slice_get m.assignments j ≡ Some b
            → slice_get (reads a.value) k ≡ Some b.target.0 → q < p
        before p q i j k a b at_p at_q is_a is_b read =
            let target = place_of_each (λ c. c.target.0 < length drivers) m.assignments inside j b is_b in
            let need = needs_driver m.assignments drivers i k j a b are runs.apart is_a is_b read target in
            let earlier = sorted.behind p i j at_p need in
            let same = sorted.once q earlier.0 j at_q earlier.2 in
            rw same earlier.1

    covers : (values : Values) → AreDriven values (taken m.assignments order) → AreDriven values m.assignments
    covers values driven = each_of_places (λ a. values a.target.0 ≡ expr_value values a.value) m.assignments (λ i a is.
        let place = sorted.all i (rw (length-map m.assignments (needs_by drivers)) (slice_get_within m.assignments i a is)) in
        taken_at (λ b. values b.target.0 ≡ expr_value values b.value) m.assignments order driven place.0 i a place.1 is)

    drives : (s : ℕ) → IsUndriven (taken m.assignments order) s → IsUndriven m.assignments s
    drives s undriven = each_of_places (λ a. a.target.0 ≢ s) m.assignments (λ i a is.
        let place = sorted.all i (rw (length-map m.assignments (needs_by drivers)) (slice_get_within m.assignments i a is)) in
        taken_at (λ b. b.target.0 ≢ s) m.assignments order undriven place.0 i a place.1 is)

-- a need that comes back to itself is a wire that depends on itself
pub cycle_depends : (m : VModule) (drivers : List (Option ℕ)) (i j : ℕ) (a b : Assignment) → AreDrivers m.assignments drivers
    → ((l : ℕ) (c : Assignment) → slice_get m.assignments l ≡ Some c → AllByRecursion (λ s. s < length drivers) (reads c.value))
    → graph.Reaches (map (needs_by drivers) m.assignments) i j → slice_get m.assignments i ≡ Some a → slice_get m.assignments j ≡ Some b
    → wired.ReadsThrough m a.target.0 b.target.0
cycle_depends m drivers i j a b are inside (graph.itself _ _ need) is_a is_b =
    let read = need_drives m.assignments drivers i j a are is_a (inside i a is_a) need in
    let same : read.1 ≡ b = let both : Some read.1 ≡ Some b = sym read.2 ∙ is_b in cc in
    wired.reads_it i read.0 b.target.0 a is_a (read.3 ∙ ap (λ c. Some c.target.0) same)
cycle_depends m drivers i j a b are inside (graph.by_way _ l _ need rest) is_a is_b =
    let read = need_drives m.assignments drivers i l a are is_a (inside i a is_a) need in
    wired.by_way a.target.0 read.1.target.0 b.target.0 (wired.reads_it i read.0 read.1.target.0 a is_a read.3)
    (cycle_depends m drivers l j read.1 b are inside rest read.2 is_b)

-- elements of a front with one more
get_prefix_more : (xs : List Assignment) (i j : ℕ) (y : Assignment) → slice_get (take i xs) j ≡ Some y → slice_get (take (suc i) xs) j ≡ Some y
get_prefix_more [] zero j y h = cc
get_prefix_more [] (suc i) j y h = cc
get_prefix_more (x ∷ xs) zero j y h = cc
get_prefix_more (x ∷ xs) (suc i) zero y h = h
get_prefix_more (x ∷ xs) (suc i) (suc j) y h = get_prefix_more xs i j y h

get_last_taken : (xs : List Assignment) (i : ℕ) (y : Assignment) → slice_get xs i ≡ Some y → slice_get (take (suc i) xs) i ≡ Some y
get_last_taken [] zero y h = cc
get_last_taken [] (suc i) y h = cc
get_last_taken (x ∷ xs) zero y h = h
get_last_taken (x ∷ xs) (suc i) y h = get_last_taken xs i y h

get_taken_more : (xs : List Assignment) (i j : ℕ) (x y : Assignment) → slice_get xs i ≡ Some x → slice_get (take (suc i) xs) j ≡ Some y → (slice_get (take i xs) j ≡ Some y) ⊎ ((j ≡ i) × (x ≡ y))
get_taken_more [] i j x y at h = cc
get_taken_more (z ∷ zs) zero zero x y at h = inr (refl, cc)
get_taken_more (z ∷ zs) zero (suc j) x y at h = cc
get_taken_more (z ∷ zs) (suc i) zero x y at h = inl h
get_taken_more (z ∷ zs) (suc i) (suc j) x y at h = elim (get_taken_more zs i j x y at h) [ inl e ↦ inl e | inr e ↦ inr (ap suc e.0, e.1) ]

-- one more assignment among those whose drivers are known
pub one_more_driver : (assignments : List Assignment) (i : ℕ) (drivers : List (Option ℕ)) (a : Assignment) → AreDrivers (take i assignments) drivers
    → slice_get assignments i ≡ Some a → a.target.0 < length drivers → AreDrivers (take (suc i) assignments) (slice_set drivers a.target.0 (Some i))
one_more_driver assignments i drivers a are is_a inside = record { found = found; missed = missed }
  where
    size : i < length assignments
    size = slice_get_within assignments i a is_a

    front : (j : ℕ) (b : Assignment) → slice_get (take i assignments) j ≡ Some b → slice_get (take (suc i) assignments) j ≡ Some b
    front j b h = get_prefix_more assignments i j b h

    here : slice_get (take (suc i) assignments) i ≡ Some a
    here = get_last_taken assignments i a is_a

    back : (j : ℕ) (b : Assignment) → slice_get (take (suc i) assignments) j ≡ Some b → (slice_get (take i assignments) j ≡ Some b) ⊎ ((j ≡ i) × (a ≡ b))
    back j b h = get_taken_more assignments i j a b is_a h

    found : (s j : ℕ) → slice_get (slice_set drivers a.target.0 (Some i)) s ≡ Some (Some j) → (b : Assignment) × (slice_get (take (suc i) assignments) j ≡ Some b) × (b.target.0 ≡ s)
    found s j h = go (cases_eq s a.target.0)
      where
        go : (s ≡ a.target.0) ⊎ (s ≢ a.target.0) → (b : Assignment) × (slice_get (take (suc i) assignments) j ≡ Some b) × (b.target.0 ≡ s)
        go (inl e) =
            let old = slice_get-get_or drivers a.target.0 None inside in
            let set = slice_get-set drivers a.target.0 (get_or drivers a.target.0 None) (Some i) old in
            let both : Some (Some i) ≡ Some (Some j) = sym set ∙ ap (slice_get (slice_set drivers a.target.0 (Some i))) (sym e) ∙ h in
            let same : i ≡ j = cc in
            (a, subst (λ k. slice_get (take (suc i) assignments) k ≡ Some a) same here, sym e)
        go (inr ne) =
            let old = are.found s j (sym (slice_get-set_other drivers a.target.0 s (Some i) ne) ∙ h) in
            (old.0, front j old.0 old.1, old.2)

    missed : (s j : ℕ) (b : Assignment) → slice_get (slice_set drivers a.target.0 (Some i)) s ≡ Some None → slice_get (take (suc i) assignments) j ≡ Some b → b.target.0 ≢ s
    missed s j b h at_j = go (cases_eq s a.target.0)
      where
        go : (s ≡ a.target.0) ⊎ (s ≢ a.target.0) → b.target.0 ≢ s
        go (inl e) =
            let old = slice_get-get_or drivers a.target.0 None inside in
            let set = slice_get-set drivers a.target.0 (get_or drivers a.target.0 None) (Some i) old in
            let both : Some (Some i) ≡ Some None = sym set ∙ ap (slice_get (slice_set drivers a.target.0 (Some i))) (sym e) ∙ h in
            absurd (cc)
        go (inr ne) = by_place (back j b at_j)
          where
            by_place : (slice_get (take i assignments) j ≡ Some b) ⊎ ((j ≡ i) × (a ≡ b)) → b.target.0 ≢ s
            by_place (inl old) = are.missed s j b (sym (slice_get-set_other drivers a.target.0 s (Some i) ne) ∙ h) old
            by_place (inr (_, same)) = λ e. ne (sym e ∙ ap (λ c. c.target.0) (sym same))

-- before any assignment is looked at, no signal has a driver
pub no_drivers : (assignments : List Assignment) (count : ℕ) → AreDrivers (take 0 assignments) (replicate count None)
no_drivers assignments count = record { found = λ s i h. absurd (never count s i h); missed = λ s i a h g. λ e. nothing assignments i a g }
  where
    never : (n s i : ℕ) → slice_get (replicate n None) s ≡ Some (Some i) → ⊥
    never zero s i h = cc
    never (suc n) zero i h = cc
    never (suc n) (suc s) i h = never n s i h

    nothing : (xs : List Assignment) (i : ℕ) (a : Assignment) → slice_get (take 0 xs) i ≡ Some a → ⊥
    nothing [] i a h = cc
    nothing (x ∷ xs) i a h = cc

-- what needs something is an assignment
pub needs_known : (assignments : List Assignment) (drivers : List (Option ℕ)) (i j : ℕ) → Needs (map (needs_by drivers) assignments) i j
    → (a : Assignment) × (slice_get assignments i ≡ Some a)
needs_known assignments drivers i j (k, h) = at (slice_get assignments i) refl
  where
    at : (o : Option Assignment) → slice_get assignments i ≡ o → (a : Assignment) × (slice_get assignments i ≡ Some a)
    at (Some a) e = (a, e)
    at None e =
        let empty : needs_of (map (needs_by drivers) assignments) i ≡ [] = ap (λ o. unwrap_or o []) (slice_get-map (needs_by drivers) assignments i ∙ ap (option_map (needs_by drivers)) e) in
        let there : slice_get {X = ℕ} [] k ≡ Some j = ap (λ xs. slice_get xs k) (sym empty) ∙ h in
        cc

-- what is needed is an assignment
pub needs_closed : (assignments : List Assignment) (drivers : List (Option ℕ)) → AreDrivers assignments drivers
    → ((i : ℕ) (a : Assignment) → slice_get assignments i ≡ Some a → AllByRecursion (λ s. s < length drivers) (reads a.value))
    → AreClosed (map (needs_by drivers) assignments)
needs_closed assignments drivers are inside i j need =
    let known = needs_known assignments drivers i j need in
    let read = need_drives assignments drivers i j known.0 are known.1 (inside i known.0 known.1) need in
    rw (length-map assignments (needs_by drivers)) (slice_get_within assignments j read.1 read.2)

-- one more signal among those whose drivers are found
pub drivers_step : (drivers : List (Option ℕ)) (signals : List ℕ) (i : ℕ) (found : List ℕ) → i < length signals → get_or signals i 0 < length drivers
    → (found ++ filter_map (λ o. o) (get_or drivers (get_or signals i 0) None ∷ [])) ++ filter_map (driver_at drivers) (drop (i + 1) signals)
    ≡ found ++ filter_map (driver_at drivers) (drop i signals)
drivers_step drivers signals i found inside known =
    let opened = drop-cons signals i 0 inside in
    let here : driver_at drivers (get_or signals i 0) ≡ get_or drivers (get_or signals i 0) None = ap (λ o. unwrap_or o None) (slice_get-get_or drivers (get_or signals i 0) None known) in
    rw (opened, add-one) (at (get_or drivers (get_or signals i 0) None) here)
  where
    at : (o : Option ℕ) → driver_at drivers (get_or signals i 0) ≡ o
        → (found ++ filter_map (λ o. o) (o ∷ [])) ++ filter_map (driver_at drivers) (drop (suc i) signals)
        ≡ found ++ filter_map (driver_at drivers) (get_or signals i 0 ∷ drop (suc i) signals)
    at None e = rw e (ap (λ xs. xs ++ filter_map (driver_at drivers) (drop (suc i) signals)) (append-nil found))
    at (Some d) e = rw e (append_assoc found (d ∷ []) (filter_map (driver_at drivers) (drop (suc i) signals)))
