-- The parts of a tuple, one after another.
use Rattle.std.proofs.Common.{ℕ, ◌≡◌, ◌∙◌, ◌<◌, ◌≤◌, ◌+◌, suc, Bool, true, false, List, [], ◌∷◌, map, length, drop, get_or, slice_get, Option, Some, None, refl, sym, ap, subst}
use mathlib.Core.Bool.{true≢false}
use Rattle.base.specs.Lists.Prefix.{IsPrefix}
use Rattle.dslx_tree.specs.declared.pattern.Pattern.{Pattern}
use Rattle.dslx_meaning.specs.Environment.{Env, Meanings}
use Rattle.dslx_meaning.specs.Lists.{and_then}
use Rattle.dslx_meaning.specs.Meaning.{fit_each, pattern_denotation}
use Rattle.dslx_meaning.specs.Values.{elements_of}
use Rattle.dslx_meaning.specs.declared.ty.DslxType.{DslxType}
use Rattle.dslx_meaning.specs.declared.value.DslxValue.{DslxValue}
use Rattle.dslx_meaning.specs.Rules.PatternRules.{is_there, part_types}
use Rattle.dslx_meaning.specs.Rules.TypeEnvs.{constant_env}
use Rattle.dslx_check_rules.specs.Interned.{HasRowIf, ItemNames, type_if}
use Rattle.dslx_check_rules.specs.declared.table.row.TypeId.{TypeId}
use Rattle.dslx_check_rules.specs.declared.table.row.TypeRow.{TypeRow}
use Rattle.dslx_check_rules.specs.Control.Patterns.{part_of_so_many}
use Rattle.dslx_check_facts.specs.Known.{item_names}
use Rattle.dslx_check_facts.specs.Walks.{OnlyMisses, WalkShown}
use Rattle.dslx_check_facts.specs.declared.facts.Facts.{Facts}
use Rattle.dslx_check_facts.proofs.Lemmas.Walks.{misses_trans}
use Rattle.dslx_check_leaves.specs.Fits.Fits.{AreFine, Asked, FitsAs, IsAsked, PartsFit, PatternFits, TupleFits}
use Rattle.dslx_check_leaves.proofs.OnFits.Among.{no_rest, rest_at}
use Rattle.dslx_check_leaves.proofs.OnFits.OnFits.Asked.{asked_at, none_before}
use Rattle.dslx_check_leaves.proofs.OnFits.OnFits.Tuples.{part_fine}

-- what the first parts leave to the others
pub record SoFar (items : Meanings) (scope : Env) (ps : List Pattern) (vs : List DslxValue) (env : Env) (i : ℕ) : Type 0 where
  pub at : Env
  pub same : at.items ≡ items
  pub rest : fit_each scope (map pattern_denotation ps) vs env ≡ fit_each scope (map pattern_denotation (drop i ps)) (drop i vs) at

pub record PartsSoFar (f : Facts) (old new : WalkShown) (ty : Option TypeId) (ps : List Pattern) (vs : List DslxValue) (i : ℕ) : Type 0 where
  pub misses : OnlyMisses old new
  pub fit : Asked f old new ty (λ known context t. (ts : List DslxType) → part_types (length ps) (Some t) ≡ Some ts → AreFine context ts ps → (env : Env) → env.items ≡ known.items
      → SoFar known.items (constant_env context) ps vs env i)

not_there : {A : Type 0} (o : Option A) → false ≡ is_there o → o ≡ None
not_there None e = refl
not_there (Some a) e = absurd (true≢false (sym e))

-- the next part fits, or nothing does
pub record NextPart (items : Meanings) (scope : Env) (ps : List Pattern) (vs : List DslxValue) (env : Env) (i : ℕ) (b : Bool) : Type 0 where
  pub more : b ≡ true → SoFar items scope ps vs env (i + 1)
  pub over : b ≡ false → fit_each scope (map pattern_denotation ps) vs env ≡ None

next_part : (items : Meanings) (scope : Env) (ps : List Pattern) (vs : List DslxValue) (env : Env) (i : ℕ) (p : Pattern) (v : DslxValue) (b : Bool) → SoFar items scope ps vs env i
    → i < length ps → p ≡ get_or ps i p → i < length vs → v ≡ get_or vs i v → ((at : Env) → at.items ≡ items → FitsAs items b ((pattern_denotation p).fits scope v at)) → NextPart items scope ps vs env i b
next_part items scope ps vs env i p v b far lp ep lv ev fit =
    let split : fit_each scope (map pattern_denotation ps) vs env
    ≡ and_then ((pattern_denotation p).fits scope v far.at) (fit_each scope (map pattern_denotation (drop (i + 1) ps)) (drop (i + 1) vs)) =
    far.rest ∙ (λ k. fit_each scope (map pattern_denotation (rest_at ps i p lp ep k)) (rest_at vs i v lv ev k) far.at) in
    by ((pattern_denotation p).fits scope v far.at) split (fit far.at far.same)
  where
    by : (o : Option Env) → fit_each scope (map pattern_denotation ps) vs env ≡ and_then o (fit_each scope (map pattern_denotation (drop (i + 1) ps)) (drop (i + 1) vs)) → FitsAs items b o → NextPart items scope ps vs env i b
    by None e h = record { more = λ is. absurd (true≢false (sym is ∙ h.is)); over = λ is. e }
    by (Some at) e h = record { more = λ is. record { at = at; same = h.stays; rest = e }; over = λ is. absurd (true≢false (sym h.is ∙ is)) }

-- with one part more
pub parts_next : {f : Facts} {w0 w1 w2 : WalkShown} {ty part : Option TypeId} {ps : List Pattern} {vs : List DslxValue} {b : Bool} (i : ℕ) (p : Pattern) (v : DslxValue) → PartsSoFar f w0 w1 ty ps vs i
    → i < length ps → p ≡ get_or ps i p → i < length vs → v ≡ get_or vs i v
    → ((names : ItemNames) (later : List TypeRow) → IsPrefix w1.rows later → HasRowIf w1.rows ty → type_if names later part ≡ part_of_so_many (length ps) i (type_if names later ty)) → (HasRowIf w1.rows ty → HasRowIf w1.rows part)
    → OnlyMisses w1 w2 → PatternFits f w1 w2 part p v b
    → Asked f w0 w2 ty (λ known context t. (ts : List DslxType) → part_types (length ps) (Some t) ≡ Some ts → AreFine context ts ps → (env : Env) → env.items ≡ known.items
    → NextPart known.items (constant_env context) ps vs env i b)
parts_next {f} {w0} {w1} {w2} {ty} {part} {ps} {vs} {b} i p v far lp ep lv ev type_is there m fit known later context t asked none ts are fine env same =
    let before = none_before m none in
    let now = asked_at far.misses.rows asked in
    let q = part_fine context ts ps i p fine lp ep in
    let is : type_if (item_names f) later.rows part ≡ Some q.0 =
    type_is (item_names f) later.rows now.rows now.row ∙ ap (part_of_so_many (length ps) i) now.is ∙ ap (λ o. and_then o (λ us. slice_get us i)) are ∙ q.1 in
    let here : IsAsked f later known w1.rows part context q.0 = record { agrees = asked.agrees; rows = now.rows; row = there now.row; items = asked.items; is = is } in
    next_part known.items (constant_env context) ps vs env i p v b (far.fit known later context t asked before ts are fine env same) lp ep lv ev
    (λ at same_at. fit.fit known later context q.0 here none q.2 at same_at)

pub parts_begin : {f : Facts} {w : WalkShown} {ty : Option TypeId} {ps : List Pattern} {vs : List DslxValue} → OnlyMisses w w → PartsSoFar f w w ty ps vs 0
parts_begin {f} {w} {ty} {ps} {vs} m = record { misses = m; fit = λ known later context t asked none ts are fine env same. record { at = env; same = same; rest = refl } }

pub parts_more : {f : Facts} {w0 w1 w2 : WalkShown} {ty : Option TypeId} {ps : List Pattern} {vs : List DslxValue} {b : Bool} (i : ℕ) → OnlyMisses w0 w1 → OnlyMisses w1 w2 → b ≡ true
    → Asked f w0 w2 ty (λ known context t. (ts : List DslxType) → part_types (length ps) (Some t) ≡ Some ts → AreFine context ts ps → (env : Env) → env.items ≡ known.items
    → NextPart known.items (constant_env context) ps vs env i b) → PartsSoFar f w0 w2 ty ps vs (i + 1)
parts_more {f} {w0} {w1} {w2} {ty} {ps} {vs} {b} i m n is h = record {
  misses = misses_trans w0 w1 w2 m n;
  fit = λ known later context t asked none ts are fine env same. (h known later context t asked none ts are fine env same).more is;
}

-- one that doesn't fit
pub parts_over : {f : Facts} {w0 w2 : WalkShown} {ty : Option TypeId} {ps : List Pattern} {vs : List DslxValue} {b : Bool} (i : ℕ) → b ≡ false
    → Asked f w0 w2 ty (λ known context t. (ts : List DslxType) → part_types (length ps) (Some t) ≡ Some ts → AreFine context ts ps → (env : Env) → env.items ≡ known.items
    → NextPart known.items (constant_env context) ps vs env i b) → PartsFit f w0 w2 ty ps vs false
parts_over {f} {w0} {w2} {ty} {ps} {vs} {b} i is h = record {
  fit = λ known later context t asked none ts are fine env same.
      subst (λ (o : Option Env). FitsAs known.items false o) (sym ((h known later context t asked none ts are fine env same).over is)) (record { is = refl; stays = tt });
}

-- all of them
pub parts_all : {f : Facts} {w0 w1 : WalkShown} {ty : Option TypeId} {ps : List Pattern} {vs : List DslxValue} (i : ℕ) → length ps ≤ i → length vs ≤ i → PartsSoFar f w0 w1 ty ps vs i → PartsFit f w0 w1 ty ps vs true
parts_all {f} {w0} {w1} {ty} {ps} {vs} i h k far = record {
  fit = λ known later context t asked none ts are fine env same.
      let q = far.fit known later context t asked none ts are fine env same in
      let e : fit_each (constant_env context) (map pattern_denotation ps) vs env ≡ Some q.at =
      q.rest ∙ (λ j. fit_each (constant_env context) (map pattern_denotation (no_rest ps i h j)) (no_rest vs i k j) q.at) in
      subst (λ (o : Option Env). FitsAs known.items true o) (sym e) (record { is = refl; stays = q.same });
}

-- a tuple of another number of parts
uneven : (scope : Env) (ps : List Pattern) (vs : List DslxValue) (env : Env) → (length ps ≡ length vs → ⊥) → fit_each scope (map pattern_denotation ps) vs env ≡ None
uneven scope [] [] env h = absurd (h refl)
uneven scope [] (v ∷ vs) env h = refl
uneven scope (p ∷ ps) [] env h = refl
uneven scope (p ∷ ps) (v ∷ vs) env h = by ((pattern_denotation p).fits scope v env) (λ e. uneven scope ps vs e (λ q. h (ap suc q)))
  where
    by : (o : Option Env) → ((e : Env) → fit_each scope (map pattern_denotation ps) vs e ≡ None) → and_then o (fit_each scope (map pattern_denotation ps) vs) ≡ None
    by None rest = refl
    by (Some e) rest = rest e

pub parts_uneven : {f : Facts} {w : WalkShown} {ty : Option TypeId} {ps : List Pattern} {vs : List DslxValue} → (length ps ≡ length vs → ⊥) → PartsFit f w w ty ps vs false
parts_uneven {f} {w} {ty} {ps} {vs} h = record {
  fit = λ known later context t asked none ts are fine env same.
      subst (λ (o : Option Env). FitsAs known.items false o) (sym (uneven (constant_env context) ps vs env h)) (record { is = refl; stays = tt });
}

pub tuple_of_parts : {f : Facts} {w0 w1 : WalkShown} {ty : Option TypeId} {ps : List Pattern} {b : Bool} (v : DslxValue) (vs : List DslxValue) → elements_of v ≡ Some vs → PartsFit f w0 w1 ty ps vs b → TupleFits f w0 w1 ty ps v b
tuple_of_parts {f} {w0} {w1} {ty} {ps} {b} v vs e h = record {
  fit = λ known later context t asked none ts are fine env same.
      subst (λ (o : Option (List DslxValue)). FitsAs known.items b (and_then o (λ us. fit_each (constant_env context) (map pattern_denotation ps) us env))) (sym e)
      (h.fit known later context t asked none ts are fine env same);
}

pub no_tuple : {f : Facts} {w : WalkShown} {ty : Option TypeId} {ps : List Pattern} (v : DslxValue) → elements_of v ≡ None → TupleFits f w w ty ps v false
no_tuple {f} {w} {ty} {ps} v e = record {
  fit = λ known later context t asked none ts are fine env same.
      subst (λ (o : Option (List DslxValue)). FitsAs known.items false (and_then o (λ us. fit_each (constant_env context) (map pattern_denotation ps) us env))) (sym e) (record { is = refl; stays = tt });
}
