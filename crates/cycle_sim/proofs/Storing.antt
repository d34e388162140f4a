-- What registers take stands there behind a cycle, and nothing else changes.
use Rattle.std.proofs.Common.{◌≡◌, ◌≢◌, ℕ, ◌<◌, List, [], ◌∷◌, length, length-set, refl, sym, ap, ◌∙◌, subst, ◌⊎◌, inl, inr, true, false, arith}
use Rattle.std.proofs.lemmas.Bool.{cases_eq, eq-eqb, eqb-true}
use Rattle.std.proofs.lemmas.Bool.Decides.{eqb_tells}
use Rattle.std.specs.Prelude.{slice_set, if◌then◌else◌, ◌==◌, Bool}
use Rattle.std.specs.List.{AllByRecursion}
use mathlib.Core.Path.{fun_ext}
use Rattle.xb_bits.specs.Word.{Word}
use Rattle.vlog_tree.specs.declared.module.Set.{Set}
use Rattle.vlog_tree.specs.Value.{Values, atom_value}
use Rattle.vlog_tree.specs.Meaning.{taken_by}
use Rattle.vlog_tree.specs.Settled.{values_of, widths_of}
use Rattle.vlog_tree.proofs.Lemmas.Settling.{values_of-set_same, values_of-set_other}
use Rattle.cycle_sim.specs.Stored.{stored}
use Rattle.cycle_sim.proofs.Settling.{widths_of-set}

pub length-stored : (sets : List Set) (values : Values) (words : List Word) → length (stored sets values words) ≡ length words
length-stored [] values words = refl
length-stored (set ∷ sets) values words =
    length-stored sets values (slice_set words set.target.0 (atom_value values set.value)) ∙ length-set words set.target.0 (atom_value values set.value)

-- a write to a signal, as the values see it
written : (words : List Word) (t : ℕ) (w : Word) → t < length words → values_of (slice_set words t w) ≡ (λ r. if t == r then w else values_of words r)
written words t w inside = fun_ext at
  where
    at : (r : ℕ) → values_of (slice_set words t w) r ≡ (if t == r then w else values_of words r)
    at r = go (eqb_tells t r)
      where
        go : ((t == r) ≡ true) × (t ≡ r) ⊎ ((t == r) ≡ false) × (t ≢ r) → values_of (slice_set words t w) r ≡ (if t == r then w else values_of words r)
        go (inl (test, e)) = rw test (subst (λ k. values_of (slice_set words t w) k ≡ w) e (values_of-set_same words t w inside))
        go (inr (test, ne)) = rw test (values_of-set_other words t r w (λ e. ne (sym e)))

-- the numbers behind the sets are what the signals take by them
pub stored_is : (sets : List Set) (values : Values) (words : List Word) → AllByRecursion (λ set. set.target.0 < length words) sets
    → values_of (stored sets values words) ≡ taken_by sets values (values_of words)
stored_is [] values words inside = refl
stored_is (set ∷ sets) values words inside =
    stored_is sets values next (within_next sets inside.1)
    ∙ ap (taken_by sets values) (written words set.target.0 (atom_value values set.value) inside.0)
  where
    next : List Word
    next = slice_set words set.target.0 (atom_value values set.value)

    within_next : (more : List Set) → AllByRecursion (λ other. other.target.0 < length words) more → AllByRecursion (λ other. other.target.0 < length next) more
    within_next [] h = tt
    within_next (other ∷ more) h = (rw (length-set words set.target.0 (atom_value values set.value)) h.0, within_next more h.1)

-- what a signal takes depends on what that signal holds alone
pub taken_by_same : (sets : List Set) (values held other : Values) (s : ℕ) → held s ≡ other s → taken_by sets values held s ≡ taken_by sets values other s
taken_by_same [] values held other s e = e
taken_by_same (set ∷ sets) values held other s e =
    taken_by_same sets values (λ r. if set.target.0 == r then atom_value values set.value else held r) (λ r. if set.target.0 == r then atom_value values set.value else other r) s
    (ap (λ w. if set.target.0 == s then atom_value values set.value else w) e)

-- a signal that no set names keeps its number
pub stored_elsewhere : (sets : List Set) (values : Values) (words : List Word) (s : ℕ) → AllByRecursion (λ set. set.target.0 ≢ s) sets
    → values_of (stored sets values words) s ≡ values_of words s
stored_elsewhere [] values words s h = refl
stored_elsewhere (set ∷ sets) values words s h =
    stored_elsewhere sets values (slice_set words set.target.0 (atom_value values set.value)) s h.1
    ∙ values_of-set_other words set.target.0 s (atom_value values set.value) (λ e. h.0 (sym e))

-- where each set has its target's width, no width changes
pub stored_widths : (sets : List Set) (values : Values) (words : List Word)
    → AllByRecursion (λ set. (set.target.0 < length words) × ((atom_value values set.value).width ≡ widths_of words set.target.0)) sets
    → widths_of (stored sets values words) ≡ widths_of words
stored_widths [] values words h = refl
stored_widths (set ∷ sets) values words h = stored_widths sets values next (later sets h.1) ∙ kept
  where
    next : List Word
    next = slice_set words set.target.0 (atom_value values set.value)

    kept : widths_of next ≡ widths_of words
    kept = widths_of-set words set.target.0 (atom_value values set.value) h.0.0 h.0.1

    later : (more : List Set) → AllByRecursion (λ other. (other.target.0 < length words) × ((atom_value values other.value).width ≡ widths_of words other.target.0)) more
        → AllByRecursion (λ other. (other.target.0 < length next) × ((atom_value values other.value).width ≡ widths_of next other.target.0)) more
    later [] h = tt
    later (other ∷ more) h =
        ((rw (length-set words set.target.0 (atom_value values set.value)) h.0.0, h.0.1 ∙ ap (λ w. w other.target.0) (sym kept)), later more h.1)
