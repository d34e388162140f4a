-- The parametrics of an instance, with their values.
use Rattle.std.specs.Prelude.{ℕ, List, [], ◌≡◌, length, drop}
use Rattle.dslx_tree.specs.declared.item.Parametric.{Parametric}
use Rattle.dslx_meaning.specs.Items.{parametric_args_bound}
use Rattle.dslx_meaning.specs.declared.value.DslxValue.{DslxValue}
use Rattle.dslx_meaning.specs.Rules.ItemRules.{Found, and_found, default_found, found_in, item_type_env, only_faults, parametrics_found, typing_of_inner}
use Rattle.dslx_meaning.specs.Rules.NameRules.{local_name}
use Rattle.dslx_meaning.specs.Rules.TypeEnvs.{TypeEnv}
use Rattle.dslx_check_rules.specs.declared.faults.Faults.{Faults}
use Rattle.dslx_check_rules.specs.Seen.{seen}
use Rattle.dslx_check_facts.specs.declared.facts.Facts.{Facts}
use Rattle.dslx_check_facts.specs.declared.type_env.TypeEnv.{TypeEnv as CodeEnv}
use Rattle.dslx_check_facts.specs.Judged.{Comes, environment}
use Rattle.dslx_check_facts.specs.Known.{item_names}
use Rattle.dslx_check_facts.specs.TypeEnvs.{HasBoundRows}
use Rattle.dslx_check_facts.specs.Walks.{WalkGrows, WalkShown, instances_at}
use Rattle.dslx_check_declarations.specs.Scopes.{outside}

-- one of them, behind these names of the list
abbrev pub parametric_found : List (List ℕ) → Parametric → TypeEnv → Found
parametric_found before p context =
    let t = typing_of_inner context p.ty in
    and_found (only_faults (local_name context before p.name)) (and_found (found_in t) (default_found context t.ty p.default))

-- all of them in the text of an item, behind which they are in scope with these values
pub record ParametricsWalked (f : Facts) (item : ℕ) (after : CodeEnv) (old new : WalkShown) (faults : Faults) (ps : List Parametric) (vs : List DslxValue) : Type 0 where
  pub grows : WalkGrows old new
  pub scope : after ≡ record (outside item) { parametric_args = after.parametric_args }
  pub bound : Comes f (outside item) old new (λ known later. HasBoundRows (item_names f) new.rows after)
  pub args : Comes f (outside item) old new (λ known later. environment f after known later ≡ item_type_env known ((item_names f).item item) (parametric_args_bound [] ps vs))
  pub found : Comes f (outside item) old new (λ known later. faults ≡ seen (parametrics_found known ((item_names f).item item) [] [] ps vs).faults)
  pub reaches : Comes f (outside item) old new (λ known later. instances_at (item_names f) later.met (drop (length old.reached) new.reached) ≡ (parametrics_found known ((item_names f).item item) [] [] ps vs).reached)
