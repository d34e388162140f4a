-- Patterns that fit whatever there is.
use Rattle.std.proofs.Common.{ℕ, ◌≡◌, ◌∙◌, ◌<◌, Bool, true, false, List, [], ◌∷◌, length, get_or, Some, refl, sym, ap}
use mathlib.Core.Bool.{true≢false}
use Rattle.std.specs.Prelude.{◌||◌, if◌then◌else◌, not}
use Rattle.dslx_tree.specs.declared.block.Stmt.TheOpen.{Shape-F}
use Rattle.dslx_tree.specs.declared.expr.Arm.{Arm, out-Arm}
use Rattle.dslx_tree.specs.declared.pattern.Pattern.{Pattern, out-Pattern}
use Rattle.dslx_tree.specs.declared.pattern.Shape.{roll-Shape}
use Rattle.dslx_meaning.specs.Environment.{Meanings, bind}
use Rattle.dslx_meaning.specs.Meaning.{PatternDen, fit_value}
use Rattle.dslx_meaning.specs.Rules.PatternRules.{is_there}
use Rattle.dslx_meaning.specs.Rules.TypeEnvs.{GlobalEnv, constant_env}
use Rattle.dslx_check_facts.specs.Known.{FactsHold}
use Rattle.dslx_check_facts.specs.Walks.{WalkShown}
use Rattle.dslx_check_facts.specs.declared.facts.Facts.{Facts}
use Rattle.dslx_check_leaves.specs.Fits.Fits.{CatchesAll, CatchesValue, arm_fits, fits_there}
use Rattle.dslx_check_leaves.proofs.OnFits.Among.{any_at}
use Rattle.dslx_check_leaves.proofs.OnFits.OnFits.Meanings.{denotes}

pub wild_catches : {f : Facts} (p : Pattern) → (out-Pattern p).shape ≡ roll-Shape Shape-F.Wild → CatchesValue f (p ∷ [])
wild_catches {f} p is = record {
  fit = λ known later context v agrees same. ap (λ (d : PatternDen). is_there (d.fits (constant_env context) v (constant_env context)) || false) (denotes p Shape-F.Wild is);
}

pub name_catches : {f : Facts} (p : Pattern) (name : List ℕ) (b : Bool) → (out-Pattern p).shape ≡ roll-Shape (Shape-F.Shape::Name name) → ((known : GlobalEnv) (later : WalkShown) → FactsHold f later known → b ≡ known.items.is_constant name)
    → not b ≡ true → CatchesValue f (p ∷ [])
name_catches {f} p name b is h e = record {
  fit = λ known later context v agrees same.
      let env = constant_env context in
      let no : env.items.is_constant name ≡ false = ap (λ (i : Meanings). i.is_constant name) same ∙ sym (h known later agrees) ∙ negated b e in
      ap (λ (d : PatternDen). is_there (d.fits env v env) || false) (denotes p (Shape-F.Shape::Name name) is)
      ∙ ap (λ (c : Bool). is_there (if c then fit_value (env.items.constant name) v env else Some (bind name v env)) || false) no;
}
  where
    negated : (b : Bool) → not b ≡ true → b ≡ false
    negated true e = absurd (true≢false (sym e))
    negated false e = refl

or_left : (a b : Bool) → (a || false) ≡ true → a ≡ true
or_left true b e = refl
or_left false b e = e

pub one_catches : {f : Facts} {ps : List Pattern} (i : ℕ) (p : Pattern) → i < length ps → p ≡ get_or ps i p → CatchesValue f (p ∷ []) → CatchesValue f ps
one_catches {f} {ps} i p h e c = record {
  fit = λ known later context v agrees same. any_at (fits_there context v) ps i p h e (or_left (fits_there context v p) false (c.fit known later context v agrees same));
}

pub arm_catches : {f : Facts} {arms : List Arm} (i : ℕ) (a : Arm) → i < length arms → a ≡ get_or arms i a → CatchesValue f (out-Arm a).patterns → CatchesAll f arms
arm_catches {f} {arms} i a h e c = record { fit = λ known later context v agrees same. any_at (arm_fits context v) arms i a h e (c.fit known later context v agrees same) }
