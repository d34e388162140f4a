-- Parts that have no type: what they break, and what they reach.
use Rattle.std.specs.Prelude.{ℕ, List, ◌≡◌, Option}
use Rattle.dslx_meaning.specs.Rules.ItemRules.{Found}
use Rattle.dslx_meaning.specs.Rules.TypeEnvs.{TypeEnv}
use Rattle.dslx_meaning.specs.declared.ty.DslxType.{DslxType}
use Rattle.dslx_check_rules.specs.declared.faults.Faults.{Faults}
use Rattle.dslx_check_rules.specs.declared.table.row.TypeId.{TypeId}
use Rattle.dslx_check_rules.specs.declared.table.row.TypeRow.{TypeRow}
use Rattle.dslx_check_rules.specs.Seen.{seen}
use Rattle.dslx_check_rules.specs.Interned.{HasRowIf, ItemNames, type_if}
use Rattle.dslx_check_facts.specs.declared.facts.Facts.{Facts}
use Rattle.dslx_check_facts.specs.declared.type_env.TypeEnv.{TypeEnv as CodeEnv}
use Rattle.dslx_check_facts.specs.Walks.{WalkShown, instances_at}
use Rattle.dslx_check_leaves.specs.Walked.{WalksTo}

pub record TypesFound (faults : Faults) (found : TypeEnv → Found) (names : ItemNames) (rows : List TypeRow) (later : WalkShown) (more : List ℕ) (env : TypeEnv) : Type 0 where
  pub is : faults ≡ seen (found env).faults
  pub reaches : instances_at names later.met more ≡ (found env).reached

abbrev pub JudgesFound : Facts → CodeEnv → CodeEnv → WalkShown → WalkShown → Faults → (TypeEnv → Found) → Type 0
JudgesFound f before after old new faults found = WalksTo f before after old new (TypesFound faults found)

-- the same by the type that something has to have, which was met before
pub record TypesAgainst (faults : Faults) (old : List TypeRow) (wanted : Option TypeId) (found : Option DslxType → TypeEnv → Found)
    (names : ItemNames) (rows : List TypeRow) (later : WalkShown) (more : List ℕ) (env : TypeEnv) : Type 0 where
  pub is : HasRowIf old wanted → faults ≡ seen (found (type_if names later.rows wanted) env).faults
  pub reaches : HasRowIf old wanted → instances_at names later.met more ≡ (found (type_if names later.rows wanted) env).reached

abbrev pub JudgesAgainst : Facts → CodeEnv → CodeEnv → WalkShown → WalkShown → Faults → Option TypeId → (Option DslxType → TypeEnv → Found) → Type 0
JudgesAgainst f before after old new faults wanted found = WalksTo f before after old new (TypesAgainst faults old.rows wanted found)
