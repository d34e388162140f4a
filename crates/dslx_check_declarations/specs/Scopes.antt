-- What comes into scope.
use Rattle.std.specs.Prelude.{ℕ, List, [], ◌∷◌, ◌++◌, ◌≡◌, Bool, false, Option, Some, None}
use Rattle.dslx_tree.specs.declared.item.Parametric.{Parametric}
use Rattle.dslx_meaning.specs.declared.value.DslxValue.{DslxValue}
use Rattle.dslx_meaning.specs.Rules.ModuleRules.{with_parametric}
use Rattle.dslx_meaning.specs.Rules.TypeEnvs.{GlobalEnv, TypeEnv}
use Rattle.dslx_check_facts.specs.declared.facts.Facts.{Facts}
use Rattle.dslx_check_facts.specs.declared.type_env.ParametricArg.{ParametricArg}
use Rattle.dslx_check_facts.specs.declared.type_env.TypeEnv.{TypeEnv as CodeEnv}
use Rattle.dslx_check_facts.specs.Judged.{environment}
use Rattle.dslx_check_facts.specs.Known.{item_names}
use Rattle.dslx_check_facts.specs.TypeEnvs.{HasBoundRows}
use Rattle.dslx_check_facts.specs.Walks.{WalkGrows, WalkShown}

-- the text of an item outside all blocks, with no parametric
abbrev pub outside : ℕ → CodeEnv
outside item = record { owner = item; is_declaring = false; parametric_args = []; unknown = []; ends = []; locals = []; members = []; used = [] }

-- a parametric has this value from here on, with the type of that
pub record BindsValue (f : Facts) (before after : CodeEnv) (old new : WalkShown) (p : Parametric) (v : DslxValue) : Type 0 where
  pub grows : WalkGrows old new
  pub reached : new.reached ≡ old.reached
  pub missing : new.missing ≡ old.missing
  pub arg : ParametricArg
  pub binds : after ≡ record before { parametric_args = (p.name.name, arg) ∷ before.parametric_args }
  pub is : arg.value ≡ v
  pub bound : HasBoundRows (item_names f) old.rows before → HasBoundRows (item_names f) new.rows after

-- and nothing comes into scope where there is no value
abbrev pub BindsIf : Facts → CodeEnv → CodeEnv → WalkShown → WalkShown → Parametric → Option DslxValue → Type 0
BindsIf f before after old new p None = (after ≡ before) × (new ≡ old)
BindsIf f before after old new p (Some v) = BindsValue f before after old new p v

-- ---- parametrics of which some may have no known value

-- the type environment behind these parametrics with these values, as far as there are both
abbrev pub context_behind : TypeEnv → List Parametric → List (Option DslxValue) → TypeEnv
context_behind context [] vs = context
context_behind context (p ∷ ps) [] = context
context_behind context (p ∷ ps) (v ∷ vs) = context_behind (with_parametric context p v) ps vs

-- they come into scope one after another
pub record BindsAll (f : Facts) (before after : CodeEnv) (old new : WalkShown) (ps : List Parametric) (vs : List (Option DslxValue)) : Type 0 where
  pub grows : WalkGrows old new
  pub reached : new.reached ≡ old.reached
  pub missing : new.missing ≡ old.missing
  pub bound : HasBoundRows (item_names f) old.rows before → HasBoundRows (item_names f) new.rows after
  pub is : (known : GlobalEnv) (later : WalkShown) → environment f after known later ≡ context_behind (environment f before known later) ps vs

-- the same where a part of the declaration may be judged for a call that rule 3 refuses
abbrev pub declaring : ℕ → Bool → CodeEnv
declaring item is_declaring = record (outside item) { is_declaring = is_declaring }
