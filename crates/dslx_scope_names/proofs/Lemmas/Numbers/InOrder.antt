-- Parametrics, one after the other.
use Rattle.std.proofs.Common.{◌≡◌, ◌∙◌, ◌<◌, ◌≤◌, ◌+◌, ℕ, zero, suc, List, [], ◌∷◌, ◌++◌, Option, Some, None, drop, length, min, get_or, refl, sym, ap, arith}
use native.Mathlib.Nat.{not-suc-le-zero, le_of_suc-le-suc}
use Rattle.std.proofs.Math.ListN.{drop_of_length-le}
use Rattle.std.proofs.Math.Seq.{drop-cons}
use Rattle.dslx_tree.specs.declared.item.Parametric.{Parametric}
use Rattle.dslx_meaning.specs.Environment.{Given, Meanings}
use Rattle.dslx_meaning.specs.Inference.{Inferred, inferred_for}
use Rattle.dslx_meaning.specs.Items.{all_parametric_args, inferred_value, parametric_args_bound, put_first, with_number}
use Rattle.dslx_meaning.specs.Lists.{and_then}
use Rattle.dslx_meaning.specs.declared.value.DslxValue.{DslxValue}

-- these before all that is there
abbrev pub behind : {A : Type 0} → List A → Option (List A) → Option (List A)
behind [] o = o
behind (v ∷ vs) o = put_first v (behind vs o)

pub behind_none : {A : Type 0} (vs : List A) → behind vs None ≡ None
behind_none [] = refl
behind_none (v ∷ vs) = ap (put_first v) (behind_none vs)

pub behind_more : {A : Type 0} (vs : List A) (v : A) (o : Option (List A)) → behind (vs ++ v ∷ []) o ≡ behind vs (put_first v o)
behind_more [] v o = refl
behind_more (w ∷ ws) v o = ap (put_first w) (behind_more ws v o)

pub behind_all : {A : Type 0} (vs : List A) → behind vs (Some []) ≡ Some vs
behind_all [] = refl
behind_all (v ∷ vs) = ap (put_first v) (behind_all vs)

-- ---- what is bound

no_more : (so_far : List Given) (ps : List Parametric) → parametric_args_bound so_far ps [] ≡ so_far
no_more so_far [] = refl
no_more so_far (p ∷ ps) = refl

-- there are no parameters or no values past the shorter list
pub all_bound : (so_far : List Given) (ps : List Parametric) (vs : List DslxValue) (i : ℕ) → min (length ps) (length vs) ≤ i → parametric_args_bound so_far (drop i ps) (drop i vs) ≡ so_far
all_bound so_far [] vs zero past = refl
all_bound so_far [] vs (suc i) past = refl
all_bound so_far (p ∷ ps) [] zero past = refl
all_bound so_far (p ∷ ps) [] (suc i) past = no_more so_far (drop i ps)
all_bound so_far (p ∷ ps) (v ∷ vs) zero past = let none : ⊥ = omega arith in absurd none
all_bound so_far (p ∷ ps) (v ∷ vs) (suc i) past = let before : min (length ps) (length vs) ≤ i = omega arith in all_bound so_far ps vs i before

pub bound_more : (so_far : List Given) (ps : List Parametric) (vs : List DslxValue) (p : Parametric) (v : DslxValue) → length vs < length ps → p ≡ get_or ps (length vs) p
    → parametric_args_bound so_far ps (vs ++ v ∷ []) ≡ with_number (parametric_args_bound so_far ps vs) p v
bound_more so_far [] vs p v within at = absurd (not-suc-le-zero within)
bound_more so_far (q ∷ ps) [] p v within at = no_more (with_number so_far q v) ps ∙ ap (λ (r : Parametric). with_number so_far r v) (sym at)
bound_more so_far (q ∷ ps) (w ∷ ws) p v within at = bound_more (with_number so_far q w) ps ws p v (le_of_suc-le-suc within) at

module _ (items : Meanings) (inferred : List Inferred) where
  -- the values that are left are those of the parameters that aren't given
  pub given_first : (so_far : List Given) (ps : List Parametric) (vs : List DslxValue) → length vs ≤ length ps
      → behind vs (all_parametric_args items inferred (parametric_args_bound so_far ps vs) (drop (length vs) ps) []) ≡ all_parametric_args items inferred so_far ps vs
  given_first so_far [] [] fits = refl
  given_first so_far [] (v ∷ vs) fits = absurd (not-suc-le-zero fits)
  given_first so_far (p ∷ ps) [] fits = refl
  given_first so_far (p ∷ ps) (v ∷ vs) fits = ap (put_first v) (given_first (with_number so_far p v) ps vs (le_of_suc-le-suc fits))

  pub too_many : (so_far : List Given) (ps : List Parametric) (vs : List DslxValue) → length ps < length vs → None ≡ all_parametric_args items inferred so_far ps vs
  too_many so_far ps [] more = absurd (not-suc-le-zero more)
  too_many so_far [] (v ∷ vs) more = refl
  too_many so_far (p ∷ ps) (v ∷ vs) more = ap (put_first v) (too_many (with_number so_far p v) ps vs (le_of_suc-le-suc more))

  -- what a parameter is that isn't given, where these are bound
  abbrev pub value_there : List Given → Parametric → Option DslxValue
  value_there bound p = inferred_value (record { items = items; bound = bound }) p (inferred_for p.name.name inferred)

  -- the values of all parameters, where these are found and those from a place on are left
  abbrev pub left_behind : List Parametric → List DslxValue → ℕ → Option (List DslxValue)
  left_behind ps vs i = behind vs (all_parametric_args items inferred (parametric_args_bound [] ps vs) (drop i ps) [])

  next_is : (ps : List Parametric) (vs : List DslxValue) (i : ℕ) (p : Parametric) (o : Option DslxValue) → i < length ps → p ≡ get_or ps i p → o ≡ value_there (parametric_args_bound [] ps vs) p
      → left_behind ps vs i ≡ behind vs (and_then o (λ v. put_first v (all_parametric_args items inferred (with_number (parametric_args_bound [] ps vs) p v) (drop (suc i) ps) [])))
  next_is ps vs i p o within at is =
      ap (λ (qs : List Parametric). behind vs (all_parametric_args items inferred (parametric_args_bound [] ps vs) qs []))
      (drop-cons ps i p within ∙ ap (λ (q : Parametric). q ∷ drop (suc i) ps) (sym at))
      ∙ ap (λ (r : Option DslxValue). behind vs (and_then r (λ w. put_first w (all_parametric_args items inferred (with_number (parametric_args_bound [] ps vs) p w) (drop (suc i) ps) [])))) (sym is)

  -- the next one has a value
  pub next_found : (ps : List Parametric) (vs : List DslxValue) (i : ℕ) (p : Parametric) (v : DslxValue) → length vs ≡ i → i < length ps → p ≡ get_or ps i p → Some v ≡ value_there (parametric_args_bound [] ps vs) p
      → left_behind ps (vs ++ v ∷ []) (i + 1) ≡ left_behind ps vs i
  next_found ps vs i p v count within at found =
      let next : i + 1 ≡ suc i = omega arith in
      let inside : length vs < length ps = omega arith in
      let there : p ≡ get_or ps (length vs) p = at ∙ ap (λ (n : ℕ). get_or ps n p) (sym count) in
      behind_more vs v (all_parametric_args items inferred (parametric_args_bound [] ps (vs ++ v ∷ [])) (drop (i + 1) ps) [])
      ∙ (λ k. behind vs (put_first v (all_parametric_args items inferred (bound_more [] ps vs p v inside there k) (drop (next k) ps) [])))
      ∙ sym (next_is ps vs i p (Some v) within at found)

  -- the next one has none
  pub next_missing : (ps : List Parametric) (vs : List DslxValue) (i : ℕ) (p : Parametric) → i < length ps → p ≡ get_or ps i p → None ≡ value_there (parametric_args_bound [] ps vs) p → None ≡ left_behind ps vs i
  next_missing ps vs i p within at none = sym (behind_none vs) ∙ sym (next_is ps vs i p None within at none)

  -- none is left
  pub all_found : (ps : List Parametric) (vs : List DslxValue) (i : ℕ) → length ps ≤ i → Some vs ≡ left_behind ps vs i
  all_found ps vs i past = sym (behind_all vs) ∙ sym (ap (λ (qs : List Parametric). behind vs (all_parametric_args items inferred (parametric_args_bound [] ps vs) qs [])) (drop_of_length-le ps past))
