-- Expressions that are names alone.
use Rattle.std.specs.Prelude.{List, ℕ, Option, Some, None}
use Rattle.dslx_tree.specs.declared.block.Stmt.{Stmt}
use Rattle.dslx_tree.specs.declared.block.Stmt.TheOpen.{Node-F}
use Rattle.dslx_tree.specs.declared.block.Block.{Block}
use Rattle.dslx_tree.specs.declared.block.Let.{Let}
use Rattle.dslx_tree.specs.declared.expr.Node.{Node, out-Node}
use Rattle.dslx_tree.specs.declared.expr.Expr.{Expr, out-Expr}
use Rattle.dslx_tree.specs.declared.expr.Arg.{Arg}
use Rattle.dslx_tree.specs.declared.expr.Arm.{Arm}
use Rattle.dslx_tree.specs.declared.expr.FieldValue.{FieldValue}
use Rattle.dslx_tree.specs.declared.expr.For.{For}
use Rattle.dslx_tree.specs.declared.expr.Number.{Number}
use Rattle.dslx_tree.specs.declared.pattern.Shape.{Shape}
use Rattle.dslx_tree.specs.declared.pattern.Pattern.{Pattern}
use Rattle.dslx_tree.specs.declared.type_expr.TypeNode.{TypeNode}
use Rattle.dslx_tree.specs.declared.type_expr.TypeExpr.{TypeExpr}

-- what stands at the top of an expression
abbrev pub NodeTop : Type 0
NodeTop = Node-F Stmt Node Shape TypeNode Block Let Arg Arm Expr FieldValue For Number Pattern TypeExpr

abbrev pub name_step : NodeTop → Option (List ℕ)
name_step (Node-F.Node::Name name) = Some name
name_step _ = None

abbrev pub name_of : Expr → Option (List ℕ)
name_of e = name_step (out-Node (out-Expr e).node)
