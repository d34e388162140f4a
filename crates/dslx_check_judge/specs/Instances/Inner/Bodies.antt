-- Bodies of functions and procs, and lists of ends.
use Rattle.std.specs.Prelude.{ℕ, List, [], ◌≡◌, map, Bool, Option}
use Rattle.dslx_tree.specs.declared.block.Block.{Block}
use Rattle.dslx_tree.specs.declared.process.End.{End}
use Rattle.dslx_meaning.specs.Rules.ItemRules.{body_typing}
use Rattle.dslx_meaning.specs.Rules.ProcRules.{channel_end_of, ends_found}
use Rattle.dslx_meaning.specs.Rules.TypeEnvs.{TypeEnv}
use Rattle.dslx_check_rules.specs.declared.table.row.TypeId.{TypeId}
use Rattle.dslx_check_rules.specs.declared.table.row.TypeRow.{TypeRow}
use Rattle.dslx_check_rules.specs.declared.typing.Typing.{Typing}
use Rattle.dslx_check_rules.specs.Seen.{seen}
use Rattle.dslx_check_rules.specs.Interned.{HasRowIf, ItemNames, type_if}
use Rattle.dslx_check_facts.specs.declared.facts.Facts.{Facts}
use Rattle.dslx_check_facts.specs.declared.type_env.TypeEnv.{TypeEnv as CodeEnv}
use Rattle.dslx_check_facts.specs.Walks.{WalkShown, instances_at}
use Rattle.dslx_check_rules.specs.Nodes.Parts.{IsPart, Pairs}
use Rattle.dslx_check_declarations.specs.Ends.{IsNamed}
use Rattle.dslx_check_leaves.specs.Walked.{WalksTo}
use Rattle.dslx_check_judge.specs.declared.instances.channels.EndsSeen.{EndsSeen}

-- a body, by the type that its value has to have, which was met before
pub record TypesBody (j : Typing) (old : List TypeRow) (wanted : Option TypeId) (on_top : Bool) (body : Block)
    (names : ItemNames) (rows : List TypeRow) (later : WalkShown) (more : List ℕ) (env : TypeEnv) : Type 0 where
  pub part : HasRowIf old wanted → IsPart names rows later.rows j (body_typing on_top env (type_if names later.rows wanted) body)
  pub reaches : HasRowIf old wanted → instances_at names later.met more ≡ (body_typing on_top env (type_if names later.rows wanted) body).reached

abbrev pub JudgesBody : Facts → CodeEnv → CodeEnv → WalkShown → WalkShown → Typing → Option TypeId → Bool → Block → Type 0
JudgesBody f before after old new j wanted on_top body = WalksTo f before after old new (TypesBody j old.rows wanted on_top body)

-- a list of ends
pub record TypesEnds (e : EndsSeen) (es : List End) (names : ItemNames) (rows : List TypeRow) (later : WalkShown) (more : List ℕ) (env : TypeEnv) : Type 0 where
  pub is : e.faults ≡ seen (ends_found env [] es).faults
  pub reaches : instances_at names later.met more ≡ (ends_found env [] es).reached
  pub ends : Pairs (IsNamed names rows later.rows) e.ends.items (map (channel_end_of env) es)

abbrev pub JudgesEnds : Facts → CodeEnv → CodeEnv → WalkShown → WalkShown → EndsSeen → List End → Type 0
JudgesEnds f before after old new e es = WalksTo f before after old new (TypesEnds e es)
