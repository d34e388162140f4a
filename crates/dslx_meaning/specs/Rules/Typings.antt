-- The typings of the parts of each sort.
use Rattle.std.specs.Prelude.{ℕ, List, Bool, Option}
use Rattle.xb_span.specs.declared.span.Span.{Span}
use Rattle.xb_span.specs.declared.fault.Fault.{Fault}
use Rattle.dslx_tree.specs.declared.ident.Ident.{Ident}
use Rattle.dslx_tree.specs.declared.block.Block.{Block}
use Rattle.dslx_tree.specs.declared.expr.Arg.{Arg}
use Rattle.dslx_tree.specs.declared.pattern.Pattern.{Pattern}
use Rattle.dslx_tree.specs.declared.type_expr.TypeExpr.{TypeExpr}
use Rattle.dslx_meaning.specs.declared.ty.DslxType.{DslxType}
use Rattle.dslx_meaning.specs.Rules.TypeEnvs.{TypeEnv, Typed, Instance, Judgement, ExprTyping, ExprPair}
use Rattle.dslx_meaning.specs.Rules.Paired.{Sorts, NodePart, ShapePart, TypeNodePart, StmtPart, BlockPart, LetPart, ForPart, NumberPart}

-- a written type
abbrev pub TypeExprTyping : Type 0
TypeExprTyping = TypeEnv → Judgement

-- the typing of a pattern: the names that the whole pattern has so far, all that is bound so far, its faults, what it
-- reaches, how many nodes it has, and whether all that it needs is known
pub record PatternSeen : Type 0 where
  pub names : List (List ℕ)
  pub locals : List Typed
  pub faults : List Fault
  pub reached : List Instance
  pub size : ℕ
  pub is_known : Bool
  -- it fits every value of its type
  pub is_sure : Bool

-- where a pattern may fail or not, against a value of this type if it has one, from what the parts before it bound
abbrev pub PatternTyping : Type 0
PatternTyping = Bool → TypeEnv → Option DslxType → List (List ℕ) → List Typed → PatternSeen

-- the typing of a statement: the type environment behind it, and the rest
pub record StatementSeen : Type 0 where
  pub context : TypeEnv
  pub faults : List Fault
  pub reached : List Instance
  pub size : Option ℕ

-- at the top of `next` or elsewhere
abbrev pub StatementTyping : Type 0
StatementTyping = Bool → TypeEnv → StatementSeen

-- an arm, and a field of a struct value, with the typings of their parts
pub record ArmSeen : Type 0 where
  pub patterns : List (Pattern × PatternTyping)
  pub value : ExprPair

pub record FieldSeen : Type 0 where
  pub name : Ident
  pub value : Option ExprPair

abbrev pub typing_sorts : Sorts
typing_sorts = record {
  stmt = StatementTyping;
  node = Span → ExprTyping;
  shape = Span → PatternTyping;
  type_node = Span → TypeExprTyping;
  block = ExprTyping;
  bind = StatementTyping;
  arg = ExprPair;
  arm = ArmSeen;
  expr = ExprTyping;
  field = FieldSeen;
  loop = Span → TypeExprTyping;
  number = Span → TypeExprTyping;
  pattern = PatternTyping;
  type_expr = TypeExprTyping;
}

-- the parts beside their typings
abbrev pub TypePair : Type 0
TypePair = TypeExpr × TypeExprTyping

abbrev pub BlockPair : Type 0
BlockPair = Block × ExprTyping

abbrev pub PatternPair : Type 0
PatternPair = Pattern × PatternTyping

abbrev pub ArgPair : Type 0
ArgPair = Arg × ExprPair

abbrev pub NodeSeenLayer : Type 0
NodeSeenLayer = NodePart typing_sorts

abbrev pub TypeNodeLayer : Type 0
TypeNodeLayer = TypeNodePart typing_sorts

abbrev pub ShapeLayer : Type 0
ShapeLayer = ShapePart typing_sorts

abbrev pub StmtSeenLayer : Type 0
StmtSeenLayer = StmtPart typing_sorts

abbrev pub BlockLayer : Type 0
BlockLayer = BlockPart typing_sorts

abbrev pub LetLayer : Type 0
LetLayer = LetPart typing_sorts

abbrev pub ForLayer : Type 0
ForLayer = ForPart typing_sorts

abbrev pub NumberLayer : Type 0
NumberLayer = NumberPart typing_sorts
