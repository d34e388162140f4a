-- Blocks and their statements, `if` and `for`.
use Rattle.std.specs.Prelude.{◌≡◌, ◌++◌, ◌∷◌, List, [], Option, Some, None}
use Rattle.base.specs.Lists.Prefix.{IsPrefix}
use Rattle.xb_span.specs.declared.span.Span.{Span}
use Rattle.xb_span.specs.declared.fault.Fault.{Fault}
use Rattle.dslx_tree.specs.declared.expr.Expr.{Expr}
use Rattle.dslx_meaning.specs.Lists.{and_then, with_both}
use Rattle.dslx_meaning.specs.Types.{same_type, unit_type}
use Rattle.dslx_meaning.specs.declared.ty.DslxType.{DslxType}
use Rattle.dslx_meaning.specs.declared.ty.DslxType as ty
use Rattle.dslx_meaning.specs.Rules.TypeEnvs.{Judgement, TypeEnv, settled, plus_size, one_and}
use Rattle.dslx_meaning.specs.Rules.Typings.{PatternSeen, StatementSeen}
use Rattle.dslx_meaning.specs.Rules.OperatorRules.{is_bool, unless_type, unless_types}
use Rattle.dslx_meaning.specs.Rules.AggregateRules.{wanted_faults}
use Rattle.dslx_meaning.specs.Rules.ControlRules.{LoopSeen, annotation_faults, annotation_size, let_with, loop_with}
use Rattle.dslx_meaning.specs.Rules.RuleNumbers as rule
use Rattle.dslx_check_rules.specs.declared.table.row.TypeId.{TypeId}
use Rattle.dslx_check_rules.specs.declared.table.row.TypeRow.{TypeRow}
use Rattle.dslx_check_rules.specs.declared.typing.Typing.{Typing}
use Rattle.dslx_check_rules.specs.Seen.{seen, capped}
use Rattle.dslx_check_rules.specs.Interned.{AreDistinct, ItemNames}
use Rattle.dslx_check_rules.specs.declared.control.control.LoopParts.{LoopParts}
use Rattle.dslx_check_rules.specs.declared.control.control.StatementTyping.{StatementTyping}
use Rattle.dslx_check_rules.specs.declared.nodes.parts.Spanned.{Spanned}
use Rattle.dslx_check_rules.specs.declared.control.patterns.PatternTyping.{PatternTyping}
use Rattle.dslx_check_rules.specs.Nodes.Parts.{IsConstant, IsPart, IsPartIf}
use Rattle.dslx_check_rules.specs.Control.Patterns.{IsPattern}

-- the condition stands at the second span
abbrev pub if_of : Span → Span → Judgement → Judgement → Judgement → Judgement
if_of span at condition first second =
    settled span (and_then condition.ty (λ t. with_both first.ty second.ty (λ u v. Some u)))
    (condition.faults ++ first.faults ++ second.faults ++ unless_type is_bool rule.CONDITION_IS_BOOL at condition.ty
    ++ unless_types same_type rule.BRANCHES_OF_ONE_TYPE span first.ty second.ty)
    (condition.reached ++ first.reached ++ second.reached)
    (one_and (plus_size condition.size (plus_size first.size second.size)))

-- ---- statements

-- the typing is what the statement comes to, but for what is in scope behind it
pub record IsStatement (statement : StatementTyping) (x : StatementSeen) : Type 0 where
  pub faults : statement.faults ≡ seen x.faults
  pub size : statement.size ≡ capped x.size

-- one statement behind another
abbrev pub both_statements : StatementSeen → StatementSeen → StatementSeen
both_statements first rest = record { context = rest.context; faults = first.faults ++ rest.faults; reached = first.reached ++ rest.reached; size = plus_size first.size rest.size }

abbrev pub no_statement : TypeEnv → StatementSeen
no_statement context = record { context = context; faults = []; reached = []; size = Some 0 }

abbrev pub block_of : Span → StatementSeen → Judgement → Judgement
block_of span walked last = settled span last.ty (walked.faults ++ last.faults) (walked.reached ++ last.reached) (one_and (plus_size walked.size last.size))

-- a block without a last expression
abbrev pub no_value : Judgement
no_value = record { ty = Some unit_type; faults = []; reached = []; size = Some 0 }

pub record FromBlock (span : Span) (rows : List TypeRow) (statements : StatementTyping) (last result : Typing) : Type 0 where
  pub typed : (names : ItemNames) (later : List TypeRow) → AreDistinct names → IsPrefix rows later → (walked : StatementSeen) (x : Judgement) → IsStatement statements walked
      → IsPart names rows later last x → IsPart names rows later result (block_of span walked x)

pub record FromLet (rows : List TypeRow) (value : Spanned) (written : Option Typing) (pattern : PatternTyping) (result : StatementTyping) : Type 0 where
  pub typed : (names : ItemNames) (later : List TypeRow) → AreDistinct names → IsPrefix rows later → (context : TypeEnv) (e : Expr) (x : Judgement) (w : Option Judgement) (bound : PatternSeen)
      → IsPart names rows later value.typing x → IsPartIf names rows later written w → IsPattern pattern bound → IsStatement result (let_with context e value.span x w bound)

-- the annotation of a `let`, whose value stands at this span
pub record IsAnnotation (span : Span) (w : Option Judgement) (t : Option DslxType) (annotation : StatementTyping) : Type 0 where
  pub faults : annotation.faults ≡ seen (annotation_faults span w t)
  pub size : annotation.size ≡ capped (annotation_size w)

-- ---- loops

-- the parts of a loop are these
pub record IsLoop (names : ItemNames) (rows later : List TypeRow) (parts : LoopParts) (l : LoopSeen) : Type 0 where
  pub from : IsConstant names rows later parts.from.now l.from
  pub to : IsConstant names rows later parts.to.now l.to
  pub written : IsPartIf names rows later parts.written l.written
  pub start : IsPart names rows later parts.start l.start
  pub index : IsPattern parts.index l.index
  pub acc : IsPattern parts.accumulator l.acc
  pub body : IsPart names rows later parts.body.typing l.body

pub record FromLoop (span : Span) (old new : List TypeRow) (parts : LoopParts) (result : Typing) : Type 0 where
  pub typed : (names : ItemNames) (later : List TypeRow) → AreDistinct names → IsPrefix new later → (l : LoopSeen) → IsLoop names old later parts l
      → IsPart names new later result (loop_with span parts.body.span l)

-- the type of what a turn is given
abbrev pub pair_of : Option DslxType → Option DslxType → Option DslxType
pair_of index acc = with_both index acc (λ i a. Some (ty.Tuple (i ∷ a ∷ [])))

-- the annotation of a loop whose turns are given this
abbrev pub annotated_with : Span → Option Judgement → Option DslxType → List Fault
annotated_with span None pair = []
annotated_with span (Some written) pair = written.faults ++ wanted_faults span written.ty pair

abbrev pub annotated_id : Option Typing → Option TypeId → Option TypeId
annotated_id None t = t
annotated_id (Some written) t = written.ty
