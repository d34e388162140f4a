-- What a `config` does: its statements one after another, from what is made before them.
use Rattle.std.specs.Prelude.{ℕ, List, [], ◌∷◌, ◌++◌, ◌≡◌, map, false}
use Rattle.dslx_tree.specs.declared.process.ConfigStatement.{ConfigStatement}
use Rattle.dslx_tree.specs.declared.process.ConfigStatement.TheVariants as config_statement
use Rattle.dslx_tree.specs.declared.process.Proc.{Proc}
use Rattle.dslx_meaning.specs.Rules.ItemRules.{Found}
use Rattle.dslx_meaning.specs.Rules.ProcRules as the
use Rattle.dslx_meaning.specs.Rules.TypeEnvs.{TypeEnv}
use Rattle.dslx_check_rules.specs.declared.faults.Faults.{Faults}
use Rattle.dslx_check_rules.specs.declared.table.row.TypeRow.{TypeRow}
use Rattle.dslx_check_rules.specs.Seen.{seen}
use Rattle.dslx_check_rules.specs.Interned.{ItemNames}
use Rattle.dslx_check_facts.specs.declared.facts.Facts.{Facts}
use Rattle.dslx_check_facts.specs.declared.type_env.TypeEnv.{TypeEnv as CodeEnv}
use Rattle.dslx_check_facts.specs.Judged.{Comes, environment}
use Rattle.dslx_check_facts.specs.Known.{item_names}
use Rattle.dslx_check_facts.specs.Walks.{WalkGrows, WalkShown, instances_at}
use Rattle.std.specs.Prelude.{drop, length}
use Rattle.dslx_check_rules.specs.Nodes.Parts.{Pairs}
use Rattle.dslx_check_declarations.specs.declared.config.Made.{Made}
use Rattle.dslx_check_declarations.specs.declared.ends.NamedEnd.{NamedEnd}
use Rattle.dslx_check_declarations.specs.Config.{AreMadeOf}
use Rattle.dslx_check_declarations.specs.Ends.{IsNamed}
use Rattle.dslx_check_leaves.specs.Walked.{WalksTo}

-- ---- statements

-- what one breaks and reaches, what is made behind it, and the ends that it uses
abbrev pub statement_found : TypeEnv → the.Made → ConfigStatement → Found
statement_found context m (config_statement.Channel c) = the.channel_found context m c
statement_found context m (config_statement.Spawn s) = the.spawn_found context m s

abbrev pub made_behind : TypeEnv → the.Made → ConfigStatement → the.Made
made_behind context m (config_statement.Channel c) = the.made_with context m c
made_behind context m (config_statement.Spawn s) = m

abbrev pub ends_used : ConfigStatement → List (List ℕ)
ends_used (config_statement.Channel c) = []
ends_used (config_statement.Spawn s) = the.ident_names s.ends

abbrev pub all_ends_used : List ConfigStatement → List (List ℕ)
all_ends_used [] = []
all_ends_used (s ∷ ss) = ends_used s ++ all_ends_used ss

-- ---- steps

-- from what is made, by the definitions, at the head of a part of a `config` to what is made behind it
pub record MakesOn (next : Made) (faults : Faults) (found : TypeEnv → the.Made → Found) (behind : TypeEnv → the.Made → the.Made) (used : List (List ℕ))
    (names : ItemNames) (rows : List TypeRow) (later : WalkShown) (more : List ℕ) (after : TypeEnv) (context : TypeEnv) (m : the.Made) (before : List (List ℕ)) : Type 0 where
  pub is : faults ≡ seen (found context m).faults
  pub reaches : instances_at names later.met more ≡ (found context m).reached
  pub scope : after ≡ the.behind_ends context (behind context m)
  pub made : AreMadeOf names rows later.rows next (behind context m) (before ++ used)

-- a walk over such a part, whose ends are in scope behind it
pub record StepsConfig (f : Facts) (before after : CodeEnv) (old new : WalkShown) (made next : Made) (faults : Faults) (found : TypeEnv → the.Made → Found) (behind : TypeEnv → the.Made → the.Made)
    (used : List (List ℕ)) : Type 0 where
  pub scope : after ≡ record before { ends = after.ends }
  pub grows : WalkGrows old new
  pub holds : before.is_declaring ≡ false → Comes f before old new (λ known later. (context : TypeEnv) (m : the.Made) (so_far : List (List ℕ)) → environment f before known later ≡ the.behind_ends context m
      → AreMadeOf (item_names f) old.rows later.rows made m so_far
      → MakesOn next faults found behind used (item_names f) new.rows later (drop (length old.reached) new.reached) (environment f after known later) context m so_far)

abbrev pub StepsStatement : Facts → CodeEnv → CodeEnv → WalkShown → WalkShown → Made → Made → Faults → ConfigStatement → Type 0
StepsStatement f before after old new made next faults s =
    StepsConfig f before after old new made next faults (λ context m. statement_found context m s) (λ context m. made_behind context m s) (ends_used s)

abbrev pub StepsStatements : Facts → CodeEnv → CodeEnv → WalkShown → WalkShown → Made → Made → Faults → List ConfigStatement → Type 0
StepsStatements f before after old new made next faults ss =
    StepsConfig f before after old new made next faults (λ context m. the.config_statements_found context m ss) (λ context m. the.made_at_end context m ss) (all_ends_used ss)

-- ---- a whole `config`

-- where the members are these
pub record TypesConfig (faults : Faults) (p : Proc) (members : List NamedEnd) (old : List TypeRow) (names : ItemNames) (rows : List TypeRow) (later : WalkShown) (more : List ℕ) (env : TypeEnv) : Type 0 where
  pub is : Pairs (IsNamed names old later.rows) members (map (the.channel_end_of env) p.members) → faults ≡ seen (the.config_found env p).faults
  pub reaches : instances_at names later.met more ≡ (the.config_found env p).reached

-- its ends are in scope in it alone
abbrev pub JudgesConfig : Facts → CodeEnv → CodeEnv → WalkShown → WalkShown → Faults → Proc → List NamedEnd → Type 0
JudgesConfig f before after old new faults p members = before.is_declaring ≡ false → before.ends ≡ [] → WalksTo f before after old new (TypesConfig faults p members old.rows)
