-- An order of assignments by what they need is one in which each reads only what is there before it.
use Rattle.std.proofs.Common.{◌≡◌, ◌≢◌, ℕ, zero, suc, ◌+◌, ◌<◌, List, [], ◌∷◌, length, length-set, map, take, refl, sym, ap, ◌∙◌, subst, ◌⊎◌, inl, inr, Option, Some, None, arith}
use Rattle.std.proofs.lemmas.Bool.{cases_eq}
use Rattle.std.specs.Prelude.{slice_get, slice_set, filter_map, unwrap_or}
use Rattle.std.specs.List.{AllByRecursion}
use Rattle.std.proofs.lemmas.Option.{slice_get_within}
use Rattle.base.proofs.Lemmas.Lists.Indices.{slice_get-set, slice_get-set_other}
use Rattle.base.specs.TopoOrder.Needs.{Needs, needs_of, IsOrderOf}
use Rattle.base.specs.TopoOrder.Needs.{Reaches, itself, by_way}
use Rattle.vlog_tree.specs.declared.module.VModule.{VModule}
use Rattle.vlog_tree.specs.declared.module.Assignment.{Assignment}
use Rattle.vlog_tree.specs.Forms.{reads}
use Rattle.vlog_tree.specs.Value.{Values, expr_value}
use Rattle.vlog_tree.specs.Meaning.{AreDriven}
use Rattle.vlog_tree.specs.Settled.{IsUndriven, IsOrdered}
use Rattle.vlog_tree.specs.WellFormed as wired
use Rattle.cycle_sim.specs.Ordered.{taken}
use Rattle.cycle_sim.specs.Drivers.{AreDrivers, driver_at, needs_by}

-- what holds at each place holds of each
pub each_of_places : {A : Type 0} (P : A → Type 0) (xs : List A) → ((k : ℕ) (x : A) → slice_get xs k ≡ Some x → P x) → AllByRecursion P xs
each_of_places P [] h = tt
each_of_places P (x ∷ xs) h = (h 0 x refl, each_of_places P xs (λ k y e. h (suc k) y e))

pub place_of_each : {A : Type 0} (P : A → Type 0) (xs : List A) → AllByRecursion P xs → (k : ℕ) (x : A) → slice_get xs k ≡ Some x → P x
place_of_each P [] all k x e = cc
place_of_each P (y ∷ xs) all zero x e = let same : y ≡ x = cc in subst P same all.0
place_of_each P (y ∷ xs) all (suc k) x e = place_of_each P xs all.1 k x e

-- what holds of the assignments at the places of a list holds of those that are taken
pub each_taken : (P : Assignment → Type 0) (assignments : List Assignment) (indices : List ℕ)
    → ((p i : ℕ) (a : Assignment) → slice_get indices p ≡ Some i → slice_get assignments i ≡ Some a → P a) → AllByRecursion P (taken assignments indices)
each_taken P assignments [] h = tt
each_taken P assignments (i ∷ indices) h = at (slice_get assignments i) refl (each_taken P assignments indices (λ p j a e f. h (suc p) j a e f))
  where
    at : (o : Option Assignment) → slice_get assignments i ≡ o → AllByRecursion P (taken assignments indices) → AllByRecursion P (taken assignments (i ∷ indices))
    at None e rest = rw e rest
    at (Some a) e rest = rw e (h 0 i a refl e, rest)

-- of what is taken at the first place of a list and at the later ones
taken_later : (P : Assignment → Type 0) (assignments : List Assignment) (j : ℕ) (indices : List ℕ) → AllByRecursion P (taken assignments (j ∷ indices)) → AllByRecursion P (taken assignments indices)
taken_later P assignments j indices all = at (slice_get assignments j) refl
  where
    at : (o : Option Assignment) → slice_get assignments j ≡ o → AllByRecursion P (taken assignments indices)
    at None g = rw g at all
    at (Some b) g = let both : AllByRecursion P (b ∷ taken assignments indices) = rw g at all in both.1

pub taken_at : (P : Assignment → Type 0) (assignments : List Assignment) (indices : List ℕ) → AllByRecursion P (taken assignments indices)
    → (p i : ℕ) (a : Assignment) → slice_get indices p ≡ Some i → slice_get assignments i ≡ Some a → P a
taken_at P assignments [] all p i a e f = cc
taken_at P assignments (j ∷ indices) all zero i a e f =
    let same : j ≡ i = cc in
    let both : AllByRecursion P (a ∷ taken assignments indices) = rw (same, f) at all in
    both.0
taken_at P assignments (j ∷ indices) all (suc p) i a e f = taken_at P assignments indices (taken_later P assignments j indices all) p i a e f

-- what a list of places must be for its assignments to be ordered: whoever drives what one reads stands before it
pub record StandsInOrder (assignments : List Assignment) (indices : List ℕ) : Type 0 where
  pub within : (p i : ℕ) → slice_get indices p ≡ Some i → i < length assignments
  pub once : (p q i : ℕ) → slice_get indices p ≡ Some i → slice_get indices q ≡ Some i → p ≡ q
  pub before : (p q i j k : ℕ) (a b : Assignment) → slice_get indices p ≡ Some i → slice_get indices q ≡ Some j → slice_get assignments i ≡ Some a → slice_get assignments j ≡ Some b
      → slice_get (reads a.value) k ≡ Some b.target.0 → q < p

tail_stands : (assignments : List Assignment) (i : ℕ) (indices : List ℕ) → StandsInOrder assignments (i ∷ indices) → StandsInOrder assignments indices
tail_stands assignments i indices stands = record {
  within = λ p j e. stands.within (suc p) j e;
  once = λ p q j e f. let same = stands.once (suc p) (suc q) j e f in omega (arith, same);
  before = λ p q j k m a b e f g h r. let less = stands.before (suc p) (suc q) j k m a b e f g h r in omega (arith, less);
}

pub ordered_of_places : (assignments : List Assignment) (indices : List ℕ) → wired.DriveApart assignments → StandsInOrder assignments indices → IsOrdered (taken assignments indices)
ordered_of_places assignments [] apart stands = tt
ordered_of_places assignments (i ∷ indices) apart stands =
    at (slice_get assignments i) refl (ordered_of_places assignments indices apart (tail_stands assignments i indices stands))
  where
    undriven : (a : Assignment) → slice_get assignments i ≡ Some a → (k s : ℕ) → slice_get (reads a.value) k ≡ Some s → IsUndriven (a ∷ taken assignments indices) s
    undriven a is k s read = (
      (λ e. let less = stands.before 0 0 i i k a a refl refl is is (read ∙ ap Some (sym e)) in omega (arith, less)),
      each_taken (λ b. b.target.0 ≢ s) assignments indices (λ p j b e f same. let less = stands.before 0 (suc p) i j k a b refl e is f (read ∙ ap Some (sym same)) in omega (arith, less)),
    )

    other : (a : Assignment) → slice_get assignments i ≡ Some a → IsUndriven (taken assignments indices) a.target.0
    other a is = each_taken (λ b. b.target.0 ≢ a.target.0) assignments indices
        (λ p j b e f same. let one = apart j i b a f is same in let clash = stands.once (suc p) 0 i (e ∙ ap Some one) refl in omega (arith, clash))

    at : (o : Option Assignment) → slice_get assignments i ≡ o → IsOrdered (taken assignments indices) → IsOrdered (taken assignments (i ∷ indices))
    at None e rest = rw e rest
    at (Some a) e rest = rw e (each_of_places (IsUndriven (a ∷ taken assignments indices)) (reads a.value) (undriven a e), other a e, rest)

-- what a list of found things has: each with a place of what it was found for
pub found_for : (f : ℕ → Option ℕ) (xs : List ℕ) (k s j : ℕ) → slice_get xs k ≡ Some s → f s ≡ Some j → (n : ℕ) × (slice_get (filter_map f xs) n ≡ Some j)
found_for f [] k s j e h = cc
found_for f (x ∷ xs) zero s j e h = let same : x ≡ s = cc in (0, rw (same, h) refl)
found_for f (x ∷ xs) (suc k) s j e h = at (f x) refl (found_for f xs k s j e h)
  where
    at : (o : Option ℕ) → f x ≡ o → (n : ℕ) × (slice_get (filter_map f xs) n ≡ Some j) → (n : ℕ) × (slice_get (filter_map f (x ∷ xs)) n ≡ Some j)
    at None g rest = (rest.0, rw g rest.1)
    at (Some y) g rest = (suc rest.0, rw g rest.1)

pub found_of : (f : ℕ → Option ℕ) (xs : List ℕ) (n j : ℕ) → slice_get (filter_map f xs) n ≡ Some j → (k : ℕ) × (s : ℕ) × (slice_get xs k ≡ Some s) × (f s ≡ Some j)
found_of f [] n j e = cc
found_of f (x ∷ xs) n j e = at (f x) refl n e (λ m h. found_of f xs m j h)
  where
    at : (o : Option ℕ) → f x ≡ o → (n : ℕ) → slice_get (filter_map f (x ∷ xs)) n ≡ Some j → ((m : ℕ) → slice_get (filter_map f xs) m ≡ Some j → (k : ℕ) × (s : ℕ) × (slice_get xs k ≡ Some s) × (f s ≡ Some j))
        → (k : ℕ) × (s : ℕ) × (slice_get (x ∷ xs) k ≡ Some s) × (f s ≡ Some j)
    at None g n e rest = let old = rest n (rw g at e) in (suc old.0, old.1, old.2, old.3)
    at (Some y) g zero e rest = let first : Some y ≡ Some j = rw g at e in (0, x, refl, g ∙ first)
    at (Some y) g (suc m) e rest = let later : slice_get (filter_map f xs) m ≡ Some j = rw g at e in let old = rest m later in (suc old.0, old.1, old.2, old.3)
