-- One step of each walk over the parts of a module.
use Rattle.std.proofs.Common.{suc, ◌≡◌, ℕ, ◌+◌, ◌<◌, ◌≤◌, Bool, true, false, List, [], ◌∷◌, ◌++◌, map, take, drop, length, get_or, refl, sym, ap, ◌∙◌, drop-cons, add-one, Option, arith}
use Rattle.std.specs.Prelude.{◌||◌, is_some}
use Rattle.std.specs.Str.{bytes_eq}
use Rattle.std.specs.List.{list_any}
use Rattle.std.proofs.Math.Seq.{take-suc}
use Rattle.std.proofs.lemmas.List.{map-append, drop_all}
use Rattle.std.proofs.lemmas.List.Folds.{list_any-append}
use Rattle.xb_span.specs.declared.fault.Fault.{Fault}
use Rattle.vlog_tree.specs.declared.module.Assignment.{Assignment}
use Rattle.vlog_tree.specs.declared.module.Set.{Set}
use Rattle.vlog_tree.specs.Verifier.Checks.{PartCheck, note, noted, walk, seen_after}
use Rattle.vlog_tree.specs.Verifier.Parts.{is_among}
use Rattle.vlog_tree.specs.Verifier.Verified.{targets, set_targets}

pub noted-append : (xs ys : List PartCheck) (held : Option Fault) → noted held (xs ++ ys) ≡ noted (noted held xs) ys
noted-append [] ys held = refl
noted-append (x ∷ xs) ys held = noted-append xs ys (note x.broken x.fault held)

-- what is left of a list at a place
pub front : {A : Type 0} (xs : List A) (i : ℕ) (x : A) → i < length xs → x ≡ get_or xs i x → x ∷ drop (i + 1) xs ≡ drop i xs
front xs i x h e = rw add-one (ap (λ u. u ∷ drop (suc i) xs) e ∙ sym (drop-cons xs i x h))

one_more : (i : ℕ) → i + 1 ≡ suc i
one_more i = omega arith

pub walk_step : {S A : Type 0} (checks : S → ℕ → A → List PartCheck) (see : S → A → S) (seen : S) (xs : List A) (i : ℕ) (x : A) (held new all : Option Fault)
    → i < length xs → x ≡ get_or xs i x → new ≡ noted held (checks seen i x) → noted held (walk checks see seen i (drop i xs)) ≡ all
    → noted new (walk checks see (see seen x) (i + 1) (drop (i + 1) xs)) ≡ all
walk_step checks see seen xs i x held new all h e n g =
    ap (λ o. noted o (walk checks see (see seen x) (i + 1) (drop (i + 1) xs))) n
    ∙ ap (λ k. noted (noted held (checks seen i x)) (walk checks see (see seen x) k (drop (i + 1) xs))) (one_more i)
    ∙ sym (noted-append (checks seen i x) (walk checks see (see seen x) (suc i) (drop (i + 1) xs)) held)
    ∙ ap (λ ys. noted held (walk checks see seen i ys)) (front xs i x h e)
    ∙ g

pub walk_end : {S A : Type 0} (checks : S → ℕ → A → List PartCheck) (see : S → A → S) (seen : S) (xs : List A) (i : ℕ) (held all : Option Fault)
    → length xs ≤ i → noted held (walk checks see seen i (drop i xs)) ≡ all → held ≡ all
walk_end checks see seen xs i held all h g = ap (λ ys. noted held (walk checks see seen i ys)) (sym (drop_all i xs h)) ∙ g

pub see_step : {S A : Type 0} (see : S → A → S) (seen : S) (xs : List A) (i : ℕ) (x : A) (new all : S)
    → i < length xs → x ≡ get_or xs i x → new ≡ see seen x → seen_after see seen (drop i xs) ≡ all → seen_after see new (drop (i + 1) xs) ≡ all
see_step see seen xs i x new all h e n g = ap (λ s. seen_after see s (drop (i + 1) xs)) n ∙ ap (seen_after see seen) (front xs i x h e) ∙ g

pub see_end : {S A : Type 0} (see : S → A → S) (seen : S) (xs : List A) (i : ℕ) (all : S) → length xs ≤ i → seen_after see seen (drop i xs) ≡ all → seen ≡ all
see_end see seen xs i all h g = ap (seen_after see seen) (sym (drop_all i xs h)) ∙ g

-- ---- targets and names

pub targets-more : (xs : List Assignment) (i : ℕ) (x : Assignment) → i < length xs → x ≡ get_or xs i x → targets (take (i + 1) xs) ≡ targets (take i xs) ++ x.target.0 ∷ []
targets-more xs i x h e = rw add-one (ap targets (take-suc xs i x h ∙ ap (λ y. take i xs ++ y ∷ []) (sym e)) ∙ map-append (λ (a : Assignment). a.target.0) (take i xs) (x ∷ []))

pub set_targets-more : (xs : List Set) (i : ℕ) (x : Set) → i < length xs → x ≡ get_or xs i x → set_targets (take (i + 1) xs) ≡ set_targets (take i xs) ++ x.target.0 ∷ []
set_targets-more xs i x h e = rw add-one (ap set_targets (take-suc xs i x h ∙ ap (λ y. take i xs ++ y ∷ []) (sym e)) ∙ map-append (λ (a : Set). a.target.0) (take i xs) (x ∷ []))

pub among-more : (names : List (List ℕ)) (name q : List ℕ) → is_among (names ++ name ∷ []) q ≡ (is_among names q || bytes_eq q name)
among-more names name q = list_any-append (λ n. bytes_eq q n) names (name ∷ []) ∙ ap (λ b. is_among names q || b) (nothing (bytes_eq q name))
  where
    nothing : (b : Bool) → (b || false) ≡ b
    nothing true = refl
    nothing false = refl
