-- The nodes that the rules make, and their spans.
use Rattle.std.specs.Prelude.{ℕ, Bool, false, List, [], ◌∷◌, Option, None, Some, ◌-◌, length, map, take, drop, codes, bytes_eq}
use Rattle.xb_span.specs.declared.span.Span.{Span}
use Rattle.dslx_token.specs.Lexeme.{Lexeme}
use Rattle.dslx_token.specs.Lexical.{number_value}
use Rattle.dslx_tree.specs.declared.operators.chain.Operand.{Operand}
use Rattle.dslx_tree.specs.declared.block.Block.{Block, out-Block, roll-Block}
use Rattle.dslx_tree.specs.declared.block.Stmt.{Stmt}
use Rattle.dslx_tree.specs.declared.expr.Arg.{Arg, roll-Arg}
use Rattle.dslx_tree.specs.declared.expr.Expr.{Expr, roll-Expr}
use Rattle.dslx_tree.specs.declared.expr.Node.{Node}
use Rattle.dslx_tree.specs.declared.expr.Node as nodes
use Rattle.dslx_tree.specs.declared.expr.Number.{Number, roll-Number}
use Rattle.dslx_tree.specs.declared.ident.Ident.{Ident}
use Rattle.dslx_tree.specs.declared.pattern.Pattern.{Pattern, roll-Pattern}
use Rattle.dslx_tree.specs.declared.pattern.Shape.{Shape}
use Rattle.dslx_tree.specs.declared.pattern.Shape as shapes
use Rattle.dslx_tree.specs.declared.type_expr.TypeExpr.{TypeExpr, out-TypeExpr, roll-TypeExpr}
use Rattle.dslx_tree.specs.declared.type_expr.TypeNode.{TypeNode}
use Rattle.dslx_tree.specs.declared.type_expr.TypeNode as types

-- from the beginning of the one to the end of the other
abbrev pub from_to : Span → Span → Span
from_to first last = record { from = first.from; to = last.to }

-- what these make of it, one after the other
abbrev pub in_turn : {T : Type 0} → List (T → T) → T → T
in_turn [] x = x
in_turn (f ∷ fs) x = in_turn fs (f x)

-- ---- names and numbers

abbrev pub ident_of : Lexeme → Ident
ident_of l = record { span = l.span; name = l.bytes }

-- what stands between the quotes, with the span of the quotes
abbrev pub quoted_of : Lexeme → Ident
quoted_of l = record { span = l.span; name = drop 1 (take (length l.bytes - 1) l.bytes) }

-- a number with the `-` before it, where there is one
pub record Numeral : Type 0 where
  pub span : Span
  pub is_negative : Bool
  pub value : ℕ

abbrev pub number_of : Lexeme → Numeral
number_of l = record { span = l.span; is_negative = false; value = number_value l.bytes }

abbrev pub number_with : Option TypeExpr → Numeral → Number
number_with ty n = roll-Number (record { ty = ty; is_negative = n.is_negative; value = n.value })

-- ---- types

abbrev pub type_at : Span → TypeNode → TypeExpr
type_at span node = roll-TypeExpr (record { span = span; node = node })

abbrev pub named_type : Ident → TypeExpr
named_type name = type_at name.span (types.Name name.name)

-- of `uN`, `bits` and `sN` the one that says a signed type
abbrev pub says_signed : List ℕ → Bool
says_signed bytes = bytes_eq bytes (codes "sN")

-- the span of a number with its type before it
abbrev pub number_span : TypeExpr → Numeral → Span
number_span ty n = from_to (out-TypeExpr ty).span n.span

-- ---- expressions, each with its span, which takes in the parentheses round it

abbrev pub operand_at : Span → Node → Operand
operand_at span node = record { span = span; expr = roll-Expr (record { span = span; node = node }) }

abbrev pub exprs_of : List Operand → List Expr
exprs_of operands = map (λ o. o.expr) operands

abbrev pub bare_number : Numeral → Operand
bare_number n = operand_at n.span (nodes.Number (number_with None n))

abbrev pub typed_number : TypeExpr → Numeral → Operand
typed_number ty n = operand_at (number_span ty n) (nodes.Number (number_with (Some ty) n))

abbrev pub name_alone : Ident → Operand
name_alone name = operand_at name.span (nodes.Name name.name)

-- a member of an enum
abbrev pub member_of : Ident → Ident → Operand
member_of owner member = operand_at (from_to owner.span member.span) (nodes.Member owner member)

abbrev pub block_alone : Block → Operand
block_alone block = operand_at (out-Block block).span (nodes.Block block)

-- an array, of its brackets, its elements, and whether the last one is repeated
abbrev pub array_at : Span → Option TypeExpr → Span × Span × List Operand × Bool → Operand
array_at span ty elements = operand_at span (nodes.Array ty (exprs_of elements.2) elements.3)

abbrev pub array_type : TypeExpr → Operand → Lexeme → TypeExpr
array_type element size closing = type_at (from_to (out-TypeExpr element).span closing.span) (types.Array element size.expr)

-- what stands between `<` and `>`
abbrev pub arg_at : Span → Expr → Arg
arg_at span value = roll-Arg (record { span = span; value = value })

abbrev pub arg_of : Operand → Arg
arg_of operand = arg_at operand.span operand.expr

-- ---- blocks and patterns

-- a block, of its statements and its value
abbrev pub block_at : Span → List Stmt × Option Expr → Block
block_at span statements = roll-Block (record { span = span; statements = statements.0; value = statements.1 })

abbrev pub pattern_at : Span → Shape → Pattern
pattern_at span shape = roll-Pattern (record { span = span; shape = shape })

abbrev pub name_pattern : Ident → Pattern
name_pattern name = pattern_at name.span (shapes.Name name.name)

abbrev pub member_pattern : Ident → Ident → Pattern
member_pattern owner member = pattern_at (from_to owner.span member.span) (shapes.Member owner member)

abbrev pub number_pattern : TypeExpr → Numeral → Pattern
number_pattern ty n = pattern_at (number_span ty n) (shapes.Number (number_with (Some ty) n))

-- ---- loops

-- what stands behind the patterns and the type of a loop: `in first .. end body ( start )`
pub record LoopRange : Type 0 where
  pub keyword : Span
  pub first : Operand
  pub dots : Span
  pub end : Operand
  pub body : Block
  pub parenthesis : Span
  pub start : Operand
  pub closing : Span
