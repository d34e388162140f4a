-- Names of types.
use Rattle.std.specs.Prelude.{ℕ, List, ◌≡◌, true}
use Rattle.xb_span.specs.declared.span.Span.{Span}
use Rattle.dslx_meaning.specs.Items.{item_named}
use Rattle.dslx_meaning.specs.Rules.Mentions.{is_of_use, AsType}
use Rattle.dslx_meaning.specs.Rules.TypeEnvs.{Judgement, TypeEnv}
use Rattle.dslx_meaning.specs.Rules.TypeRules.{named_type}
use Rattle.dslx_check_facts.specs.Firsts.{meant_by}
use Rattle.dslx_check_facts.specs.Known.{item_names, names_type}
use Rattle.dslx_check_facts.specs.declared.facts.Facts.{Facts}

-- a type by its name
abbrev pub name_at : Span → List ℕ → TypeEnv → Judgement
name_at span name context = named_type span context name (is_of_use AsType (item_named name context.known.whole.items))

-- the first item of this name names a type, and has this number
pub record IsTypeItem (f : Facts) (name : List ℕ) (item : ℕ) : Type 0 where
  pub meant : names_type (meant_by f name) ≡ true
  pub called : (item_names f).item item ≡ name
