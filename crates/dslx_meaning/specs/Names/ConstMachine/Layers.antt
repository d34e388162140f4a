-- What stands at the top of a tree, and what of it is known without the values of its parts.
use Rattle.std.specs.Prelude.{ℕ, List, [], ◌∷◌, Option, Some, None, if◌then◌else◌}
use Rattle.std.specs.Str.{bytes_eq}
use Rattle.dslx_tree.specs.declared.block.Block.{Block}
use Rattle.dslx_tree.specs.declared.block.Let.{Let}
use Rattle.dslx_tree.specs.declared.block.Stmt.{Stmt}
use Rattle.dslx_tree.specs.declared.block.Stmt.TheOpen.{Node-F, Shape-F, TypeNode-F}
use Rattle.dslx_tree.specs.declared.expr.Arg.{Arg}
use Rattle.dslx_tree.specs.declared.expr.Arm.{Arm}
use Rattle.dslx_tree.specs.declared.expr.Expr.{Expr}
use Rattle.dslx_tree.specs.declared.expr.FieldValue.{FieldValue, out-FieldValue}
use Rattle.dslx_tree.specs.declared.expr.For.{For}
use Rattle.dslx_tree.specs.declared.expr.Node.{Node}
use Rattle.dslx_tree.specs.declared.expr.Number.{Number, out-Number}
use Rattle.dslx_tree.specs.declared.pattern.Pattern.{Pattern, out-Pattern}
use Rattle.dslx_tree.specs.declared.pattern.Shape.{Shape, out-Shape}
use Rattle.dslx_tree.specs.declared.type_expr.TypeExpr.{TypeExpr, out-TypeExpr}
use Rattle.dslx_tree.specs.declared.type_expr.TypeNode.{TypeNode, out-TypeNode}
use Rattle.dslx_meaning.specs.Activation.{NodeLayer, node_of}
use Rattle.dslx_meaning.specs.declared.value.UntypedLiteral.{UntypedLiteral}

abbrev pub PatternLayer : Type 0
PatternLayer = Shape-F Stmt Node Shape TypeNode Block Let Arg Arm Expr FieldValue For Number Pattern TypeExpr

abbrev pub TypeLayer : Type 0
TypeLayer = TypeNode-F Stmt Node Shape TypeNode Block Let Arg Arm Expr FieldValue For Number Pattern TypeExpr

abbrev pub shape_of : Pattern → PatternLayer
shape_of p = out-Shape (out-Pattern p).shape

abbrev pub type_of : TypeExpr → TypeLayer
type_of t = out-TypeNode (out-TypeExpr t).node

-- a number as it is written
abbrev pub written : Number → UntypedLiteral
written n = record { is_negative = (out-Number n).is_negative; value = (out-Number n).value }

abbrev pub without_type : Option TypeExpr → UntypedLiteral → Option UntypedLiteral
without_type None b = Some b
without_type (Some t) b = None

abbrev pub bare_node : NodeLayer → Option UntypedLiteral
bare_node (Node-F.Node::Number n) = without_type (out-Number n).ty (written n)
bare_node _ = None

-- the number without a type that an expression is
abbrev pub untyped_of : Expr → Option UntypedLiteral
untyped_of e = bare_node (node_of e)

abbrev pub count_of : UntypedLiteral → Option ℕ
count_of b = if b.is_negative then None else Some b.value

-- the field that is written first of those with a name
abbrev pub field_among : List ℕ → List FieldValue → Option FieldValue
field_among name [] = None
field_among name (f ∷ fs) = if bytes_eq name (out-FieldValue f).name.name then Some f else field_among name fs
