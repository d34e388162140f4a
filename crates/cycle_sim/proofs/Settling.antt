-- The steps of a simulator's walk over the assignments.
use Rattle.std.proofs.Common.{◌≡◌, ◌≢◌, ℕ, zero, suc, ◌+◌, ◌<◌, List, [], ◌∷◌, ◌++◌, length, drop, refl, sym, ap, ◌∙◌, subst, ◌⊎◌, inl, inr, Some, get_or, add-one, All, arith}
use Rattle.std.proofs.lemmas.Option.{slice_get-get_or}
use Rattle.std.proofs.lemmas.Bool.{cases_eq}
use Rattle.std.specs.Prelude.{slice_get, slice_set}
use mathlib.Core.Path.{fun_ext}
use Rattle.xb_bits.specs.Word.{Word}
use Rattle.vlog_tree.specs.declared.module.Assignment.{Assignment}
use Rattle.vlog_tree.specs.Value.{expr_value}
use Rattle.vlog_tree.specs.Settled.{values_of, widths_of, settled}
use Rattle.vlog_tree.specs.Sound.{IsSoundAssignment}
use Rattle.vlog_tree.proofs.Lemmas.Settling.{values_of-set_same, values_of-set_other}
use Rattle.vlog_tree.proofs.Lemmas.Fitting.{expr_wide}
use Rattle.cycle_sim.specs.Ordered.{taken}

-- a number of the width that was there changes no width
pub widths_of-set : (words : List Word) (t : ℕ) (w : Word) → t < length words → w.width ≡ widths_of words t → widths_of (slice_set words t w) ≡ widths_of words
widths_of-set words t w inside same = fun_ext at
  where
    at : (s : ℕ) → widths_of (slice_set words t w) s ≡ widths_of words s
    at s = go (cases_eq t s)
      where
        go : (t ≡ s) ⊎ (t ≢ s) → widths_of (slice_set words t w) s ≡ widths_of words s
        go (inl e) = subst (λ k. widths_of (slice_set words t w) k ≡ widths_of words k) e (ap (λ x. x.width) (values_of-set_same words t w inside) ∙ same)
        go (inr ne) = ap (λ x. x.width) (values_of-set_other words t s w (λ e. ne (sym e)))

-- taking an assignment changes no width
pub take_keeps : (words : List Word) (a : Assignment) → IsSoundAssignment (length words) (widths_of words) a
    → widths_of (settled (a ∷ []) words) ≡ widths_of words
take_keeps words a sound =
    widths_of-set words a.target.0 (expr_value (values_of words) a.value) sound.target (expr_wide (values_of words) (widths_of words a.target.0) a.value sound.value.fit)

-- the assignments at the places from one on are the one there and those at the later places
pub taken-drop : (assignments : List Assignment) (indices : List ℕ) (i place : ℕ) (a : Assignment)
    → slice_get indices i ≡ Some place → slice_get assignments place ≡ Some a
    → taken assignments (drop i indices) ≡ a ∷ taken assignments (drop (suc i) indices)
taken-drop assignments [] i place a at there = cc
taken-drop assignments (p ∷ indices) zero place a at there = let e : p ≡ place = cc in rw (e, there)
taken-drop assignments (p ∷ indices) (suc i) place a at there = taken-drop assignments indices i place a at there

-- what is sound among numbers is sound among others of the same widths
pub sound_still : (before after : List Word) (a : Assignment) → length after ≡ length before → widths_of after ≡ widths_of before
    → IsSoundAssignment (length before) (widths_of before) a → IsSoundAssignment (length after) (widths_of after) a
sound_still before after a same_length same_widths sound =
    subst (λ n. IsSoundAssignment n (widths_of after) a) (sym same_length)
    (subst (λ w. IsSoundAssignment (length before) w a) (sym same_widths) sound)

-- the assignment that was read at a place is sound, where all are
pub sound_at : (assignments : List Assignment) (words : List Word) (place : ℕ) (a : Assignment) → All (IsSoundAssignment (length words) (widths_of words)) assignments
    → place < length assignments → a ≡ get_or assignments place a → IsSoundAssignment (length words) (widths_of words) a
sound_at assignments words place a all inside is =
    subst (IsSoundAssignment (length words) (widths_of words)) (sym is) (all place a inside)

-- one turn of the walk
pub turn : (assignments : List Assignment) (indices : List ℕ) (i : ℕ) (a : Assignment) (before after : List Word) → i < length indices
    → get_or indices i 0 < length assignments → a ≡ get_or assignments (get_or indices i 0) a → after ≡ settled (a ∷ []) before
    → settled (taken assignments (drop (i + 1) indices)) after ≡ settled (taken assignments (drop i indices)) before
turn assignments indices i a before after inside known is made =
    let at : slice_get indices i ≡ Some (get_or indices i 0) = slice_get-get_or indices i 0 inside in
    let there : slice_get assignments (get_or indices i 0) ≡ Some a = slice_get-get_or assignments (get_or indices i 0) a known ∙ ap Some (sym is) in
    let opened = taken-drop assignments indices i (get_or indices i 0) a at there in
    rw (add-one, made, opened)
