-- Recursion on trees in which each step sees the trees of the parts beside what they came to.
use Rattle.dslx_tree.specs.declared.block.Stmt.{Stmt, roll-Stmt, fold-Stmt}
use Rattle.dslx_tree.specs.declared.block.Stmt.TheOpen.{Stmt-F, Node-F, Shape-F, TypeNode-F}
use Rattle.dslx_tree.specs.declared.block.Stmt.TheFolds.{map-Stmt, map-Node, map-Shape, map-TypeNode, map-Block, map-Let, map-Arg, map-Arm, map-Expr, map-FieldValue, map-For, map-Number, map-Pattern, map-TypeExpr}
use Rattle.dslx_tree.specs.declared.block.Block.{Block, Block-F, roll-Block, fold-Block}
use Rattle.dslx_tree.specs.declared.block.Let.{Let, Let-F, roll-Let}
use Rattle.dslx_tree.specs.declared.expr.Expr.{Expr, Expr-F, roll-Expr, fold-Expr}
use Rattle.dslx_tree.specs.declared.expr.Node.{Node, roll-Node}
use Rattle.dslx_tree.specs.declared.expr.Number.{Number, Number-F, roll-Number}
use Rattle.dslx_tree.specs.declared.expr.Arg.{Arg, Arg-F, roll-Arg, fold-Arg}
use Rattle.dslx_tree.specs.declared.expr.Arm.{Arm, Arm-F, roll-Arm}
use Rattle.dslx_tree.specs.declared.expr.For.{For, For-F, roll-For}
use Rattle.dslx_tree.specs.declared.expr.FieldValue.{FieldValue, FieldValue-F, roll-FieldValue}
use Rattle.dslx_tree.specs.declared.pattern.Pattern.{Pattern, Pattern-F, roll-Pattern, fold-Pattern}
use Rattle.dslx_tree.specs.declared.pattern.Shape.{Shape, roll-Shape}
use Rattle.dslx_tree.specs.declared.type_expr.TypeExpr.{TypeExpr, TypeExpr-F, roll-TypeExpr, fold-TypeExpr}
use Rattle.dslx_tree.specs.declared.type_expr.TypeNode.{TypeNode, roll-TypeNode}

-- what the parts of each sort come to
pub record Sorts : Type 1 where
  pub stmt : Type 0
  pub node : Type 0
  pub shape : Type 0
  pub type_node : Type 0
  pub block : Type 0
  pub bind : Type 0
  pub arg : Type 0
  pub arm : Type 0
  pub expr : Type 0
  pub field : Type 0
  pub loop : Type 0
  pub number : Type 0
  pub pattern : Type 0
  pub type_expr : Type 0

-- one level of each sort, whose parts are trees beside what they came to
abbrev pub StmtPart : Sorts → Type 0
StmtPart s = Stmt-F (Stmt × s.stmt) (Node × s.node) (Shape × s.shape) (TypeNode × s.type_node) (Block × s.block) (Let × s.bind) (Arg × s.arg) (Arm × s.arm) (Expr × s.expr) (FieldValue × s.field) (For × s.loop) (Number × s.number) (Pattern × s.pattern) (TypeExpr × s.type_expr)

abbrev pub NodePart : Sorts → Type 0
NodePart s = Node-F (Stmt × s.stmt) (Node × s.node) (Shape × s.shape) (TypeNode × s.type_node) (Block × s.block) (Let × s.bind) (Arg × s.arg) (Arm × s.arm) (Expr × s.expr) (FieldValue × s.field) (For × s.loop) (Number × s.number) (Pattern × s.pattern) (TypeExpr × s.type_expr)

abbrev pub ShapePart : Sorts → Type 0
ShapePart s = Shape-F (Stmt × s.stmt) (Node × s.node) (Shape × s.shape) (TypeNode × s.type_node) (Block × s.block) (Let × s.bind) (Arg × s.arg) (Arm × s.arm) (Expr × s.expr) (FieldValue × s.field) (For × s.loop) (Number × s.number) (Pattern × s.pattern) (TypeExpr × s.type_expr)

abbrev pub TypeNodePart : Sorts → Type 0
TypeNodePart s = TypeNode-F (Stmt × s.stmt) (Node × s.node) (Shape × s.shape) (TypeNode × s.type_node) (Block × s.block) (Let × s.bind) (Arg × s.arg) (Arm × s.arm) (Expr × s.expr) (FieldValue × s.field) (For × s.loop) (Number × s.number) (Pattern × s.pattern) (TypeExpr × s.type_expr)

abbrev pub BlockPart : Sorts → Type 0
BlockPart s = Block-F (Stmt × s.stmt) (Node × s.node) (Shape × s.shape) (TypeNode × s.type_node) (Block × s.block) (Let × s.bind) (Arg × s.arg) (Arm × s.arm) (Expr × s.expr) (FieldValue × s.field) (For × s.loop) (Number × s.number) (Pattern × s.pattern) (TypeExpr × s.type_expr)

abbrev pub LetPart : Sorts → Type 0
LetPart s = Let-F (Stmt × s.stmt) (Node × s.node) (Shape × s.shape) (TypeNode × s.type_node) (Block × s.block) (Let × s.bind) (Arg × s.arg) (Arm × s.arm) (Expr × s.expr) (FieldValue × s.field) (For × s.loop) (Number × s.number) (Pattern × s.pattern) (TypeExpr × s.type_expr)

abbrev pub ArgPart : Sorts → Type 0
ArgPart s = Arg-F (Stmt × s.stmt) (Node × s.node) (Shape × s.shape) (TypeNode × s.type_node) (Block × s.block) (Let × s.bind) (Arg × s.arg) (Arm × s.arm) (Expr × s.expr) (FieldValue × s.field) (For × s.loop) (Number × s.number) (Pattern × s.pattern) (TypeExpr × s.type_expr)

abbrev pub ArmPart : Sorts → Type 0
ArmPart s = Arm-F (Stmt × s.stmt) (Node × s.node) (Shape × s.shape) (TypeNode × s.type_node) (Block × s.block) (Let × s.bind) (Arg × s.arg) (Arm × s.arm) (Expr × s.expr) (FieldValue × s.field) (For × s.loop) (Number × s.number) (Pattern × s.pattern) (TypeExpr × s.type_expr)

abbrev pub ExprPart : Sorts → Type 0
ExprPart s = Expr-F (Stmt × s.stmt) (Node × s.node) (Shape × s.shape) (TypeNode × s.type_node) (Block × s.block) (Let × s.bind) (Arg × s.arg) (Arm × s.arm) (Expr × s.expr) (FieldValue × s.field) (For × s.loop) (Number × s.number) (Pattern × s.pattern) (TypeExpr × s.type_expr)

abbrev pub FieldPart : Sorts → Type 0
FieldPart s = FieldValue-F (Stmt × s.stmt) (Node × s.node) (Shape × s.shape) (TypeNode × s.type_node) (Block × s.block) (Let × s.bind) (Arg × s.arg) (Arm × s.arm) (Expr × s.expr) (FieldValue × s.field) (For × s.loop) (Number × s.number) (Pattern × s.pattern) (TypeExpr × s.type_expr)

abbrev pub ForPart : Sorts → Type 0
ForPart s = For-F (Stmt × s.stmt) (Node × s.node) (Shape × s.shape) (TypeNode × s.type_node) (Block × s.block) (Let × s.bind) (Arg × s.arg) (Arm × s.arm) (Expr × s.expr) (FieldValue × s.field) (For × s.loop) (Number × s.number) (Pattern × s.pattern) (TypeExpr × s.type_expr)

abbrev pub NumberPart : Sorts → Type 0
NumberPart s = Number-F (Stmt × s.stmt) (Node × s.node) (Shape × s.shape) (TypeNode × s.type_node) (Block × s.block) (Let × s.bind) (Arg × s.arg) (Arm × s.arm) (Expr × s.expr) (FieldValue × s.field) (For × s.loop) (Number × s.number) (Pattern × s.pattern) (TypeExpr × s.type_expr)

abbrev pub PatternPart : Sorts → Type 0
PatternPart s = Pattern-F (Stmt × s.stmt) (Node × s.node) (Shape × s.shape) (TypeNode × s.type_node) (Block × s.block) (Let × s.bind) (Arg × s.arg) (Arm × s.arm) (Expr × s.expr) (FieldValue × s.field) (For × s.loop) (Number × s.number) (Pattern × s.pattern) (TypeExpr × s.type_expr)

abbrev pub TypeExprPart : Sorts → Type 0
TypeExprPart s = TypeExpr-F (Stmt × s.stmt) (Node × s.node) (Shape × s.shape) (TypeNode × s.type_node) (Block × s.block) (Let × s.bind) (Arg × s.arg) (Arm × s.arm) (Expr × s.expr) (FieldValue × s.field) (For × s.loop) (Number × s.number) (Pattern × s.pattern) (TypeExpr × s.type_expr)

-- what a tree of each sort comes to, by what its parts come to
pub record Recursion (s : Sorts) : Type 0 where
  pub stmt : StmtPart s → s.stmt
  pub node : NodePart s → s.node
  pub shape : ShapePart s → s.shape
  pub type_node : TypeNodePart s → s.type_node
  pub block : BlockPart s → s.block
  pub bind : LetPart s → s.bind
  pub arg : ArgPart s → s.arg
  pub arm : ArmPart s → s.arm
  pub expr : ExprPart s → s.expr
  pub field : FieldPart s → s.field
  pub loop : ForPart s → s.loop
  pub number : NumberPart s → s.number
  pub pattern : PatternPart s → s.pattern
  pub type_expr : TypeExprPart s → s.type_expr

abbrev pub with_stmt : (s : Sorts) → Recursion s → StmtPart s → Stmt × s.stmt
with_stmt s steps x = (
  roll-Stmt (map-Stmt (Stmt × s.stmt) (Node × s.node) (Shape × s.shape) (TypeNode × s.type_node) (Block × s.block) (Let × s.bind) (Arg × s.arg) (Arm × s.arm) (Expr × s.expr) (FieldValue × s.field) (For × s.loop) (Number × s.number) (Pattern × s.pattern) (TypeExpr × s.type_expr) Stmt Node Shape TypeNode Block Let Arg Arm Expr FieldValue For Number Pattern TypeExpr
      (λ p. p.0) (λ p. p.0) (λ p. p.0) (λ p. p.0) (λ p. p.0) (λ p. p.0) (λ p. p.0) (λ p. p.0) (λ p. p.0) (λ p. p.0) (λ p. p.0) (λ p. p.0) (λ p. p.0) (λ p. p.0) x),
  steps.stmt x,
)

abbrev pub with_node : (s : Sorts) → Recursion s → NodePart s → Node × s.node
with_node s steps x = (
  roll-Node (map-Node (Stmt × s.stmt) (Node × s.node) (Shape × s.shape) (TypeNode × s.type_node) (Block × s.block) (Let × s.bind) (Arg × s.arg) (Arm × s.arm) (Expr × s.expr) (FieldValue × s.field) (For × s.loop) (Number × s.number) (Pattern × s.pattern) (TypeExpr × s.type_expr) Stmt Node Shape TypeNode Block Let Arg Arm Expr FieldValue For Number Pattern TypeExpr
      (λ p. p.0) (λ p. p.0) (λ p. p.0) (λ p. p.0) (λ p. p.0) (λ p. p.0) (λ p. p.0) (λ p. p.0) (λ p. p.0) (λ p. p.0) (λ p. p.0) (λ p. p.0) (λ p. p.0) (λ p. p.0) x),
  steps.node x,
)

abbrev pub with_shape : (s : Sorts) → Recursion s → ShapePart s → Shape × s.shape
with_shape s steps x = (
  roll-Shape (map-Shape (Stmt × s.stmt) (Node × s.node) (Shape × s.shape) (TypeNode × s.type_node) (Block × s.block) (Let × s.bind) (Arg × s.arg) (Arm × s.arm) (Expr × s.expr) (FieldValue × s.field) (For × s.loop) (Number × s.number) (Pattern × s.pattern) (TypeExpr × s.type_expr) Stmt Node Shape TypeNode Block Let Arg Arm Expr FieldValue For Number Pattern TypeExpr
      (λ p. p.0) (λ p. p.0) (λ p. p.0) (λ p. p.0) (λ p. p.0) (λ p. p.0) (λ p. p.0) (λ p. p.0) (λ p. p.0) (λ p. p.0) (λ p. p.0) (λ p. p.0) (λ p. p.0) (λ p. p.0) x),
  steps.shape x,
)

abbrev pub with_type_node : (s : Sorts) → Recursion s → TypeNodePart s → TypeNode × s.type_node
with_type_node s steps x = (
  roll-TypeNode (map-TypeNode (Stmt × s.stmt) (Node × s.node) (Shape × s.shape) (TypeNode × s.type_node) (Block × s.block) (Let × s.bind) (Arg × s.arg) (Arm × s.arm) (Expr × s.expr) (FieldValue × s.field) (For × s.loop) (Number × s.number) (Pattern × s.pattern) (TypeExpr × s.type_expr) Stmt Node Shape TypeNode Block Let Arg Arm Expr FieldValue For Number Pattern TypeExpr
      (λ p. p.0) (λ p. p.0) (λ p. p.0) (λ p. p.0) (λ p. p.0) (λ p. p.0) (λ p. p.0) (λ p. p.0) (λ p. p.0) (λ p. p.0) (λ p. p.0) (λ p. p.0) (λ p. p.0) (λ p. p.0) x),
  steps.type_node x,
)

abbrev pub with_block : (s : Sorts) → Recursion s → BlockPart s → Block × s.block
with_block s steps x = (
  roll-Block (map-Block (Stmt × s.stmt) (Node × s.node) (Shape × s.shape) (TypeNode × s.type_node) (Block × s.block) (Let × s.bind) (Arg × s.arg) (Arm × s.arm) (Expr × s.expr) (FieldValue × s.field) (For × s.loop) (Number × s.number) (Pattern × s.pattern) (TypeExpr × s.type_expr) Stmt Node Shape TypeNode Block Let Arg Arm Expr FieldValue For Number Pattern TypeExpr
      (λ p. p.0) (λ p. p.0) (λ p. p.0) (λ p. p.0) (λ p. p.0) (λ p. p.0) (λ p. p.0) (λ p. p.0) (λ p. p.0) (λ p. p.0) (λ p. p.0) (λ p. p.0) (λ p. p.0) (λ p. p.0) x),
  steps.block x,
)

abbrev pub with_bind : (s : Sorts) → Recursion s → LetPart s → Let × s.bind
with_bind s steps x = (
  roll-Let (map-Let (Stmt × s.stmt) (Node × s.node) (Shape × s.shape) (TypeNode × s.type_node) (Block × s.block) (Let × s.bind) (Arg × s.arg) (Arm × s.arm) (Expr × s.expr) (FieldValue × s.field) (For × s.loop) (Number × s.number) (Pattern × s.pattern) (TypeExpr × s.type_expr) Stmt Node Shape TypeNode Block Let Arg Arm Expr FieldValue For Number Pattern TypeExpr
      (λ p. p.0) (λ p. p.0) (λ p. p.0) (λ p. p.0) (λ p. p.0) (λ p. p.0) (λ p. p.0) (λ p. p.0) (λ p. p.0) (λ p. p.0) (λ p. p.0) (λ p. p.0) (λ p. p.0) (λ p. p.0) x),
  steps.bind x,
)

abbrev pub with_arg : (s : Sorts) → Recursion s → ArgPart s → Arg × s.arg
with_arg s steps x = (
  roll-Arg (map-Arg (Stmt × s.stmt) (Node × s.node) (Shape × s.shape) (TypeNode × s.type_node) (Block × s.block) (Let × s.bind) (Arg × s.arg) (Arm × s.arm) (Expr × s.expr) (FieldValue × s.field) (For × s.loop) (Number × s.number) (Pattern × s.pattern) (TypeExpr × s.type_expr) Stmt Node Shape TypeNode Block Let Arg Arm Expr FieldValue For Number Pattern TypeExpr
      (λ p. p.0) (λ p. p.0) (λ p. p.0) (λ p. p.0) (λ p. p.0) (λ p. p.0) (λ p. p.0) (λ p. p.0) (λ p. p.0) (λ p. p.0) (λ p. p.0) (λ p. p.0) (λ p. p.0) (λ p. p.0) x),
  steps.arg x,
)

abbrev pub with_arm : (s : Sorts) → Recursion s → ArmPart s → Arm × s.arm
with_arm s steps x = (
  roll-Arm (map-Arm (Stmt × s.stmt) (Node × s.node) (Shape × s.shape) (TypeNode × s.type_node) (Block × s.block) (Let × s.bind) (Arg × s.arg) (Arm × s.arm) (Expr × s.expr) (FieldValue × s.field) (For × s.loop) (Number × s.number) (Pattern × s.pattern) (TypeExpr × s.type_expr) Stmt Node Shape TypeNode Block Let Arg Arm Expr FieldValue For Number Pattern TypeExpr
      (λ p. p.0) (λ p. p.0) (λ p. p.0) (λ p. p.0) (λ p. p.0) (λ p. p.0) (λ p. p.0) (λ p. p.0) (λ p. p.0) (λ p. p.0) (λ p. p.0) (λ p. p.0) (λ p. p.0) (λ p. p.0) x),
  steps.arm x,
)

abbrev pub with_expr : (s : Sorts) → Recursion s → ExprPart s → Expr × s.expr
with_expr s steps x = (
  roll-Expr (map-Expr (Stmt × s.stmt) (Node × s.node) (Shape × s.shape) (TypeNode × s.type_node) (Block × s.block) (Let × s.bind) (Arg × s.arg) (Arm × s.arm) (Expr × s.expr) (FieldValue × s.field) (For × s.loop) (Number × s.number) (Pattern × s.pattern) (TypeExpr × s.type_expr) Stmt Node Shape TypeNode Block Let Arg Arm Expr FieldValue For Number Pattern TypeExpr
      (λ p. p.0) (λ p. p.0) (λ p. p.0) (λ p. p.0) (λ p. p.0) (λ p. p.0) (λ p. p.0) (λ p. p.0) (λ p. p.0) (λ p. p.0) (λ p. p.0) (λ p. p.0) (λ p. p.0) (λ p. p.0) x),
  steps.expr x,
)

abbrev pub with_field : (s : Sorts) → Recursion s → FieldPart s → FieldValue × s.field
with_field s steps x = (
  roll-FieldValue (map-FieldValue (Stmt × s.stmt) (Node × s.node) (Shape × s.shape) (TypeNode × s.type_node) (Block × s.block) (Let × s.bind) (Arg × s.arg) (Arm × s.arm) (Expr × s.expr) (FieldValue × s.field) (For × s.loop) (Number × s.number) (Pattern × s.pattern) (TypeExpr × s.type_expr) Stmt Node Shape TypeNode Block Let Arg Arm Expr FieldValue For Number Pattern TypeExpr
      (λ p. p.0) (λ p. p.0) (λ p. p.0) (λ p. p.0) (λ p. p.0) (λ p. p.0) (λ p. p.0) (λ p. p.0) (λ p. p.0) (λ p. p.0) (λ p. p.0) (λ p. p.0) (λ p. p.0) (λ p. p.0) x),
  steps.field x,
)

abbrev pub with_loop : (s : Sorts) → Recursion s → ForPart s → For × s.loop
with_loop s steps x = (
  roll-For (map-For (Stmt × s.stmt) (Node × s.node) (Shape × s.shape) (TypeNode × s.type_node) (Block × s.block) (Let × s.bind) (Arg × s.arg) (Arm × s.arm) (Expr × s.expr) (FieldValue × s.field) (For × s.loop) (Number × s.number) (Pattern × s.pattern) (TypeExpr × s.type_expr) Stmt Node Shape TypeNode Block Let Arg Arm Expr FieldValue For Number Pattern TypeExpr
      (λ p. p.0) (λ p. p.0) (λ p. p.0) (λ p. p.0) (λ p. p.0) (λ p. p.0) (λ p. p.0) (λ p. p.0) (λ p. p.0) (λ p. p.0) (λ p. p.0) (λ p. p.0) (λ p. p.0) (λ p. p.0) x),
  steps.loop x,
)

abbrev pub with_number : (s : Sorts) → Recursion s → NumberPart s → Number × s.number
with_number s steps x = (
  roll-Number (map-Number (Stmt × s.stmt) (Node × s.node) (Shape × s.shape) (TypeNode × s.type_node) (Block × s.block) (Let × s.bind) (Arg × s.arg) (Arm × s.arm) (Expr × s.expr) (FieldValue × s.field) (For × s.loop) (Number × s.number) (Pattern × s.pattern) (TypeExpr × s.type_expr) Stmt Node Shape TypeNode Block Let Arg Arm Expr FieldValue For Number Pattern TypeExpr
      (λ p. p.0) (λ p. p.0) (λ p. p.0) (λ p. p.0) (λ p. p.0) (λ p. p.0) (λ p. p.0) (λ p. p.0) (λ p. p.0) (λ p. p.0) (λ p. p.0) (λ p. p.0) (λ p. p.0) (λ p. p.0) x),
  steps.number x,
)

abbrev pub with_pattern : (s : Sorts) → Recursion s → PatternPart s → Pattern × s.pattern
with_pattern s steps x = (
  roll-Pattern (map-Pattern (Stmt × s.stmt) (Node × s.node) (Shape × s.shape) (TypeNode × s.type_node) (Block × s.block) (Let × s.bind) (Arg × s.arg) (Arm × s.arm) (Expr × s.expr) (FieldValue × s.field) (For × s.loop) (Number × s.number) (Pattern × s.pattern) (TypeExpr × s.type_expr) Stmt Node Shape TypeNode Block Let Arg Arm Expr FieldValue For Number Pattern TypeExpr
      (λ p. p.0) (λ p. p.0) (λ p. p.0) (λ p. p.0) (λ p. p.0) (λ p. p.0) (λ p. p.0) (λ p. p.0) (λ p. p.0) (λ p. p.0) (λ p. p.0) (λ p. p.0) (λ p. p.0) (λ p. p.0) x),
  steps.pattern x,
)

abbrev pub with_type_expr : (s : Sorts) → Recursion s → TypeExprPart s → TypeExpr × s.type_expr
with_type_expr s steps x = (
  roll-TypeExpr (map-TypeExpr (Stmt × s.stmt) (Node × s.node) (Shape × s.shape) (TypeNode × s.type_node) (Block × s.block) (Let × s.bind) (Arg × s.arg) (Arm × s.arm) (Expr × s.expr) (FieldValue × s.field) (For × s.loop) (Number × s.number) (Pattern × s.pattern) (TypeExpr × s.type_expr) Stmt Node Shape TypeNode Block Let Arg Arm Expr FieldValue For Number Pattern TypeExpr
      (λ p. p.0) (λ p. p.0) (λ p. p.0) (λ p. p.0) (λ p. p.0) (λ p. p.0) (λ p. p.0) (λ p. p.0) (λ p. p.0) (λ p. p.0) (λ p. p.0) (λ p. p.0) (λ p. p.0) (λ p. p.0) x),
  steps.type_expr x,
)

abbrev pub paired_expr : (s : Sorts) → Recursion s → Expr → Expr × s.expr
paired_expr s steps = fold-Expr (Stmt × s.stmt) (Node × s.node) (Shape × s.shape) (TypeNode × s.type_node) (Block × s.block) (Let × s.bind) (Arg × s.arg) (Arm × s.arm) (Expr × s.expr) (FieldValue × s.field) (For × s.loop) (Number × s.number) (Pattern × s.pattern) (TypeExpr × s.type_expr)
    (with_stmt s steps) (with_node s steps) (with_shape s steps) (with_type_node s steps) (with_block s steps) (with_bind s steps) (with_arg s steps) (with_arm s steps) (with_expr s steps) (with_field s steps) (with_loop s steps) (with_number s steps) (with_pattern s steps) (with_type_expr s steps)

abbrev pub paired_block : (s : Sorts) → Recursion s → Block → Block × s.block
paired_block s steps = fold-Block (Stmt × s.stmt) (Node × s.node) (Shape × s.shape) (TypeNode × s.type_node) (Block × s.block) (Let × s.bind) (Arg × s.arg) (Arm × s.arm) (Expr × s.expr) (FieldValue × s.field) (For × s.loop) (Number × s.number) (Pattern × s.pattern) (TypeExpr × s.type_expr)
    (with_stmt s steps) (with_node s steps) (with_shape s steps) (with_type_node s steps) (with_block s steps) (with_bind s steps) (with_arg s steps) (with_arm s steps) (with_expr s steps) (with_field s steps) (with_loop s steps) (with_number s steps) (with_pattern s steps) (with_type_expr s steps)

abbrev pub paired_type_expr : (s : Sorts) → Recursion s → TypeExpr → TypeExpr × s.type_expr
paired_type_expr s steps = fold-TypeExpr (Stmt × s.stmt) (Node × s.node) (Shape × s.shape) (TypeNode × s.type_node) (Block × s.block) (Let × s.bind) (Arg × s.arg) (Arm × s.arm) (Expr × s.expr) (FieldValue × s.field) (For × s.loop) (Number × s.number) (Pattern × s.pattern) (TypeExpr × s.type_expr)
    (with_stmt s steps) (with_node s steps) (with_shape s steps) (with_type_node s steps) (with_block s steps) (with_bind s steps) (with_arg s steps) (with_arm s steps) (with_expr s steps) (with_field s steps) (with_loop s steps) (with_number s steps) (with_pattern s steps) (with_type_expr s steps)

abbrev pub paired_pattern : (s : Sorts) → Recursion s → Pattern → Pattern × s.pattern
paired_pattern s steps = fold-Pattern (Stmt × s.stmt) (Node × s.node) (Shape × s.shape) (TypeNode × s.type_node) (Block × s.block) (Let × s.bind) (Arg × s.arg) (Arm × s.arm) (Expr × s.expr) (FieldValue × s.field) (For × s.loop) (Number × s.number) (Pattern × s.pattern) (TypeExpr × s.type_expr)
    (with_stmt s steps) (with_node s steps) (with_shape s steps) (with_type_node s steps) (with_block s steps) (with_bind s steps) (with_arg s steps) (with_arm s steps) (with_expr s steps) (with_field s steps) (with_loop s steps) (with_number s steps) (with_pattern s steps) (with_type_expr s steps)

abbrev pub paired_arg : (s : Sorts) → Recursion s → Arg → Arg × s.arg
paired_arg s steps = fold-Arg (Stmt × s.stmt) (Node × s.node) (Shape × s.shape) (TypeNode × s.type_node) (Block × s.block) (Let × s.bind) (Arg × s.arg) (Arm × s.arm) (Expr × s.expr) (FieldValue × s.field) (For × s.loop) (Number × s.number) (Pattern × s.pattern) (TypeExpr × s.type_expr)
    (with_stmt s steps) (with_node s steps) (with_shape s steps) (with_type_node s steps) (with_block s steps) (with_bind s steps) (with_arg s steps) (with_arm s steps) (with_expr s steps) (with_field s steps) (with_loop s steps) (with_number s steps) (with_pattern s steps) (with_type_expr s steps)

abbrev pub paired_stmt : (s : Sorts) → Recursion s → Stmt → Stmt × s.stmt
paired_stmt s steps = fold-Stmt (Stmt × s.stmt) (Node × s.node) (Shape × s.shape) (TypeNode × s.type_node) (Block × s.block) (Let × s.bind) (Arg × s.arg) (Arm × s.arm) (Expr × s.expr) (FieldValue × s.field) (For × s.loop) (Number × s.number) (Pattern × s.pattern) (TypeExpr × s.type_expr)
    (with_stmt s steps) (with_node s steps) (with_shape s steps) (with_type_node s steps) (with_block s steps) (with_bind s steps) (with_arg s steps) (with_arm s steps) (with_expr s steps) (with_field s steps) (with_loop s steps) (with_number s steps) (with_pattern s steps) (with_type_expr s steps)
