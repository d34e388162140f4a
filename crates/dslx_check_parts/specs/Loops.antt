-- Loops: what stands in front of their patterns.
use Rattle.std.specs.Prelude.{ℕ, List, ◌++◌, ◌≡◌}
use Rattle.std.specs.Option.{option_map}
use Rattle.dslx_tree.specs.declared.expr.For.{For, out-For}
use Rattle.dslx_meaning.specs.Rules.ConstantRules.{ConstantSeen, constant_of}
use Rattle.dslx_meaning.specs.Rules.ControlRules.{annotation_reached, written_typing}
use Rattle.dslx_meaning.specs.Rules.TypeEnvs.{Judgement, TypeEnv, alone}
use Rattle.std.specs.Prelude.{Option}
use Rattle.dslx_check_rules.specs.declared.table.row.TypeRow.{TypeRow}
use Rattle.dslx_check_rules.specs.Interned.{ItemNames}
use Rattle.dslx_check_facts.specs.declared.facts.Facts.{Facts}
use Rattle.dslx_check_facts.specs.declared.type_env.TypeEnv.{TypeEnv as CodeEnv}
use Rattle.dslx_check_facts.specs.Walks.{WalkShown, instances_at}
use Rattle.dslx_check_rules.specs.Nodes.Parts.{IsConstant, IsPart, IsPartIf}
use Rattle.dslx_check_leaves.specs.Named.Constants.{expr_typed}
use Rattle.dslx_check_leaves.specs.Fits.Typed.{type_typed}
use Rattle.dslx_check_leaves.specs.Walked.{WalksTo}
use Rattle.dslx_check_parts.specs.declared.loops.LoopHeads.{LoopHeads}

abbrev pub from_of : For → TypeEnv → ConstantSeen
from_of n env = constant_of env (expr_typed (out-For n).from)

abbrev pub to_of : For → TypeEnv → ConstantSeen
to_of n env = constant_of env (expr_typed (out-For n).to)

abbrev pub start_of : For → TypeEnv → Judgement
start_of n env = alone env (expr_typed (out-For n).start)

abbrev pub written_of : For → TypeEnv → Option Judgement
written_of n env = written_typing env (option_map type_typed (out-For n).ty)

pub record TypesHeads (heads : LoopHeads) (n : For) (names : ItemNames) (rows : List TypeRow) (later : WalkShown) (more : List ℕ) (env : TypeEnv) : Type 0 where
  pub of_from : IsConstant names rows later.rows heads.from.constant (from_of n env)
  pub of_to : IsConstant names rows later.rows heads.to.constant (to_of n env)
  pub of_start : IsPart names rows later.rows heads.start (start_of n env)
  pub of_written : IsPartIf names rows later.rows heads.written (written_of n env)
  pub reaches : instances_at names later.met more ≡ (from_of n env).judgement.reached ++ (to_of n env).judgement.reached ++ (start_of n env).reached ++ annotation_reached (written_of n env)

abbrev pub JudgedHeads : Facts → CodeEnv → CodeEnv → WalkShown → WalkShown → LoopHeads → For → Type 0
JudgedHeads f before after old new heads n = WalksTo f before after old new (TypesHeads heads n)
