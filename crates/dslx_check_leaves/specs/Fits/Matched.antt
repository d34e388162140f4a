-- What a match comes to from its value and its arms.
use Rattle.std.specs.Prelude.{List, ◌≡◌, map, Bool, Option}
use Rattle.xb_span.specs.declared.span.Span.{Span}
use Rattle.dslx_tree.specs.declared.expr.Arm.{Arm}
use Rattle.dslx_meaning.specs.Rules.TypeEnvs.{Judgement, TypeEnv}
use Rattle.dslx_meaning.specs.Rules.ControlRules.{ArmTyping as ArmSeen, arm_typing, not_exhaustive}
use Rattle.dslx_meaning.specs.declared.ty.DslxType.{DslxType}
use Rattle.dslx_check_rules.specs.declared.table.row.TypeId.{TypeId}
use Rattle.dslx_check_rules.specs.declared.typing.Typing.{Typing}
use Rattle.dslx_check_rules.specs.Interned.{HasRowIf, type_if}
use Rattle.dslx_check_facts.specs.declared.facts.Facts.{Facts}
use Rattle.dslx_check_facts.specs.declared.type_env.TypeEnv.{TypeEnv as CodeEnv}
use Rattle.dslx_check_facts.specs.Judged.{Comes, environment}
use Rattle.dslx_check_facts.specs.Known.{item_names}
use Rattle.dslx_check_facts.specs.Walks.{WalkShown, WalkGrows}
use Rattle.dslx_check_rules.specs.Nodes.Parts.{IsPart}
use Rattle.dslx_check_rules.specs.declared.control.matches.ArmTyping.{ArmTyping}
use Rattle.dslx_check_rules.specs.Control.Matches.{AreArms, lacks_some}
use Rattle.dslx_check_leaves.specs.Fits.Typed.{arm_typed, match_half}

-- the arms against a value of this type
abbrev pub arms_at : TypeEnv → Option DslxType → List Arm → List ArmSeen
arms_at context t arms = map (arm_typing context t) (map arm_typed arms)

-- whether they match each value of it is answered as by the definitions, where that is asked
pub record Exhausted (f : Facts) (s : CodeEnv) (old new : WalkShown) (ty : Option TypeId) (all : List ArmTyping) (arms : List Arm) (is_exhaustive : Bool) : Type 0 where
  pub comes : Comes f s old new (λ known later. (t : Option DslxType) → type_if (item_names f) later.rows ty ≡ t → HasRowIf old.rows ty
      → AreArms (item_names f) old.rows later.rows all (arms_at (environment f s known later) t arms)
      → lacks_some is_exhaustive t (arms_at (environment f s known later) t arms) ≡ not_exhaustive (environment f s known later) (arms_at (environment f s known later) t arms) t)

pub record MatchFrom (f : Facts) (s : CodeEnv) (old new : WalkShown) (span : Span) (value : Typing) (all : List ArmTyping) (arms : List Arm) (j : Typing) : Type 0 where
  pub grows : WalkGrows old new
  pub reached : new.reached ≡ old.reached
  pub comes : Comes f s old new (λ known later. (x : Judgement) → IsPart (item_names f) old.rows later.rows value x
      → AreArms (item_names f) old.rows later.rows all (arms_at (environment f s known later) x.ty arms)
      → IsPart (item_names f) new.rows later.rows j (match_half span (environment f s known later) (x, arms_at (environment f s known later) x.ty arms)))
