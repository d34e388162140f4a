-- A tree beside what it becomes is the tree itself.
use Rattle.std.proofs.Common.{◌≡◌, Option, ap, subst, ◌∙◌}
use Rattle.dslx_tree.specs.declared.block.Stmt.TheFolds.{ind-Arg, ind-Expr}
use Rattle.dslx_tree.specs.declared.block.Stmt.{Stmt, roll-Stmt}
use Rattle.dslx_tree.specs.declared.expr.Node.{Node, roll-Node}
use Rattle.dslx_tree.specs.declared.pattern.Shape.{Shape, roll-Shape}
use Rattle.dslx_tree.specs.declared.type_expr.TypeNode.{TypeNode, roll-TypeNode}
use Rattle.dslx_tree.specs.declared.block.Block.{Block, roll-Block}
use Rattle.dslx_tree.specs.declared.block.Let.{Let, roll-Let}
use Rattle.dslx_tree.specs.declared.expr.Arg.{Arg, roll-Arg}
use Rattle.dslx_tree.specs.declared.expr.Arm.{Arm, roll-Arm}
use Rattle.dslx_tree.specs.declared.expr.Expr.{Expr, roll-Expr}
use Rattle.dslx_tree.specs.declared.expr.FieldValue.{FieldValue, roll-FieldValue}
use Rattle.dslx_tree.specs.declared.expr.For.{For, roll-For}
use Rattle.dslx_tree.specs.declared.expr.Number.{Number, roll-Number}
use Rattle.dslx_tree.specs.declared.pattern.Pattern.{Pattern, roll-Pattern}
use Rattle.dslx_tree.specs.declared.type_expr.TypeExpr.{TypeExpr, roll-TypeExpr}
use Rattle.dslx_tree.proofs.Lemmas.Folds.Levels.{Carriers, trees, Maps, composed, StmtLevel, NodeLevel, ShapeLevel, TypeNodeLevel, BlockLevel, LetLevel, ArgLevel, ArmLevel, ExprLevel, FieldValueLevel, ForLevel, NumberLevel, PatternLevel, TypeExprLevel, map_stmt, map_node, map_shape, map_type_node, map_block, map_bind, map_arg, map_arm, map_expr, map_field, map_loop, map_number, map_pattern, map_type_expr, map_stmt-twice, map_node-twice, map_shape-twice, map_type_node-twice, map_block-twice, map_bind-twice, map_arg-twice, map_arm-twice, map_expr-twice, map_field-twice, map_loop-twice, map_number-twice, map_pattern-twice, map_type_expr-twice}
use Rattle.dslx_tree.proofs.Lemmas.Folds.Folds.{Steps, folds, fold_stmt, fold_node, fold_shape, fold_type_node, fold_block, fold_bind, fold_arg, fold_arm, fold_expr, fold_field, fold_loop, fold_number, fold_pattern, fold_type_expr, fold_stmt-roll, fold_node-roll, fold_shape-roll, fold_type_node-roll, fold_block-roll, fold_bind-roll, fold_arg-roll, fold_arm-roll, fold_expr-roll, fold_field-roll, fold_loop-roll, fold_number-roll, fold_pattern-roll, fold_type_expr-roll}
use Rattle.dslx_meaning.specs.declared.value.DslxValue.{DslxValue}
use Rattle.dslx_meaning.specs.Rules.Paired.{with_stmt, with_node, with_shape, with_type_node, with_block, with_bind, with_arg, with_arm, with_expr, with_field, with_loop, with_number, with_pattern, with_type_expr}
use Rattle.dslx_core.specs.Lowering.CoreScopes.{CoreScope}
use Rattle.dslx_core.specs.Lowering.Patterns.{ExprLowering, ArmLowering, PatternLowering}
use Rattle.dslx_core.specs.Lowering.Trees.{FieldLowering, TypeLowering, lowering_sorts, lowering_steps}

-- trees beside what they become
abbrev pub become : Carriers
become = record {
  stmt = Stmt × (ExprLowering → ExprLowering);
  node = Node × ExprLowering;
  shape = Shape × PatternLowering;
  type_node = TypeNode × TypeLowering;
  block = Block × ExprLowering;
  bind = Let × (ExprLowering → ExprLowering);
  arg = Arg × Expr;
  arm = Arm × ArmLowering;
  expr = Expr × ExprLowering;
  field = FieldValue × FieldLowering;
  loop = For × ExprLowering;
  number = Number × (CoreScope → Option DslxValue);
  pattern = Pattern × PatternLowering;
  type_expr = TypeExpr × TypeLowering;
}

abbrev pub becoming : Steps become
becoming = record {
  stmt = with_stmt lowering_sorts lowering_steps;
  node = with_node lowering_sorts lowering_steps;
  shape = with_shape lowering_sorts lowering_steps;
  type_node = with_type_node lowering_sorts lowering_steps;
  block = with_block lowering_sorts lowering_steps;
  bind = with_bind lowering_sorts lowering_steps;
  arg = with_arg lowering_sorts lowering_steps;
  arm = with_arm lowering_sorts lowering_steps;
  expr = with_expr lowering_sorts lowering_steps;
  field = with_field lowering_sorts lowering_steps;
  loop = with_loop lowering_sorts lowering_steps;
  number = with_number lowering_sorts lowering_steps;
  pattern = with_pattern lowering_sorts lowering_steps;
  type_expr = with_type_expr lowering_sorts lowering_steps;
}

abbrev pub each_lowers_to : Maps trees become
each_lowers_to = folds become becoming

abbrev tree_of : Maps become trees
tree_of = record {
  stmt = λ p. p.0;
  node = λ p. p.0;
  shape = λ p. p.0;
  type_node = λ p. p.0;
  block = λ p. p.0;
  bind = λ p. p.0;
  arg = λ p. p.0;
  arm = λ p. p.0;
  expr = λ p. p.0;
  field = λ p. p.0;
  loop = λ p. p.0;
  number = λ p. p.0;
  pattern = λ p. p.0;
  type_expr = λ p. p.0;
}

-- ---- trees of which it holds

abbrev SameStmt : Stmt → Type 0
SameStmt x = (fold_stmt become becoming x).0 ≡ x

abbrev SameNode : Node → Type 0
SameNode x = (fold_node become becoming x).0 ≡ x

abbrev SameShape : Shape → Type 0
SameShape x = (fold_shape become becoming x).0 ≡ x

abbrev SameTypeNode : TypeNode → Type 0
SameTypeNode x = (fold_type_node become becoming x).0 ≡ x

abbrev SameBlock : Block → Type 0
SameBlock x = (fold_block become becoming x).0 ≡ x

abbrev SameLet : Let → Type 0
SameLet x = (fold_bind become becoming x).0 ≡ x

abbrev SameArg : Arg → Type 0
SameArg x = (fold_arg become becoming x).0 ≡ x

abbrev SameArm : Arm → Type 0
SameArm x = (fold_arm become becoming x).0 ≡ x

abbrev SameExpr : Expr → Type 0
SameExpr x = (fold_expr become becoming x).0 ≡ x

abbrev SameFieldValue : FieldValue → Type 0
SameFieldValue x = (fold_field become becoming x).0 ≡ x

abbrev SameFor : For → Type 0
SameFor x = (fold_loop become becoming x).0 ≡ x

abbrev SameNumber : Number → Type 0
SameNumber x = (fold_number become becoming x).0 ≡ x

abbrev SamePattern : Pattern → Type 0
SamePattern x = (fold_pattern become becoming x).0 ≡ x

abbrev SameTypeExpr : TypeExpr → Type 0
SameTypeExpr x = (fold_type_expr become becoming x).0 ≡ x

abbrev same : Carriers
same = record {
  stmt = (x : Stmt) × SameStmt x;
  node = (x : Node) × SameNode x;
  shape = (x : Shape) × SameShape x;
  type_node = (x : TypeNode) × SameTypeNode x;
  block = (x : Block) × SameBlock x;
  bind = (x : Let) × SameLet x;
  arg = (x : Arg) × SameArg x;
  arm = (x : Arm) × SameArm x;
  expr = (x : Expr) × SameExpr x;
  field = (x : FieldValue) × SameFieldValue x;
  loop = (x : For) × SameFor x;
  number = (x : Number) × SameNumber x;
  pattern = (x : Pattern) × SamePattern x;
  type_expr = (x : TypeExpr) × SameTypeExpr x;
}

abbrev first : Maps same trees
first = record {
  stmt = λ p. p.0;
  node = λ p. p.0;
  shape = λ p. p.0;
  type_node = λ p. p.0;
  block = λ p. p.0;
  bind = λ p. p.0;
  arg = λ p. p.0;
  arm = λ p. p.0;
  expr = λ p. p.0;
  field = λ p. p.0;
  loop = λ p. p.0;
  number = λ p. p.0;
  pattern = λ p. p.0;
  type_expr = λ p. p.0;
}

all_same : composed same trees trees (composed trees become trees tree_of each_lowers_to) first ≡ first
all_same = λ i. record {
  stmt = λ p. p.1 i;
  node = λ p. p.1 i;
  shape = λ p. p.1 i;
  type_node = λ p. p.1 i;
  block = λ p. p.1 i;
  bind = λ p. p.1 i;
  arg = λ p. p.1 i;
  arm = λ p. p.1 i;
  expr = λ p. p.1 i;
  field = λ p. p.1 i;
  loop = λ p. p.1 i;
  number = λ p. p.1 i;
  pattern = λ p. p.1 i;
  type_expr = λ p. p.1 i;
}

step_stmt : (x : StmtLevel trees) (y : StmtLevel same) → map_stmt same trees first y ≡ x → SameStmt (roll-Stmt x)
step_stmt x y is =
    subst (λ z. SameStmt (roll-Stmt z)) is
    (ap (λ p. p.0) (fold_stmt-roll become becoming (map_stmt same trees first y))
    ∙ ap roll-Stmt
    (map_stmt-twice trees become trees tree_of each_lowers_to (map_stmt same trees first y)
    ∙ map_stmt-twice same trees trees (composed trees become trees tree_of each_lowers_to) first y ∙ (λ i. map_stmt same trees (all_same i) y)))

step_node : (x : NodeLevel trees) (y : NodeLevel same) → map_node same trees first y ≡ x → SameNode (roll-Node x)
step_node x y is =
    subst (λ z. SameNode (roll-Node z)) is
    (ap (λ p. p.0) (fold_node-roll become becoming (map_node same trees first y))
    ∙ ap roll-Node
    (map_node-twice trees become trees tree_of each_lowers_to (map_node same trees first y)
    ∙ map_node-twice same trees trees (composed trees become trees tree_of each_lowers_to) first y ∙ (λ i. map_node same trees (all_same i) y)))

step_shape : (x : ShapeLevel trees) (y : ShapeLevel same) → map_shape same trees first y ≡ x → SameShape (roll-Shape x)
step_shape x y is =
    subst (λ z. SameShape (roll-Shape z)) is
    (ap (λ p. p.0) (fold_shape-roll become becoming (map_shape same trees first y))
    ∙ ap roll-Shape
    (map_shape-twice trees become trees tree_of each_lowers_to (map_shape same trees first y)
    ∙ map_shape-twice same trees trees (composed trees become trees tree_of each_lowers_to) first y ∙ (λ i. map_shape same trees (all_same i) y)))

step_type_node : (x : TypeNodeLevel trees) (y : TypeNodeLevel same) → map_type_node same trees first y ≡ x → SameTypeNode (roll-TypeNode x)
step_type_node x y is =
    subst (λ z. SameTypeNode (roll-TypeNode z)) is
    (ap (λ p. p.0) (fold_type_node-roll become becoming (map_type_node same trees first y))
    ∙ ap roll-TypeNode
    (map_type_node-twice trees become trees tree_of each_lowers_to (map_type_node same trees first y)
    ∙ map_type_node-twice same trees trees (composed trees become trees tree_of each_lowers_to) first y ∙ (λ i. map_type_node same trees (all_same i) y)))

step_block : (x : BlockLevel trees) (y : BlockLevel same) → map_block same trees first y ≡ x → SameBlock (roll-Block x)
step_block x y is =
    subst (λ z. SameBlock (roll-Block z)) is
    (ap (λ p. p.0) (fold_block-roll become becoming (map_block same trees first y))
    ∙ ap roll-Block
    (map_block-twice trees become trees tree_of each_lowers_to (map_block same trees first y)
    ∙ map_block-twice same trees trees (composed trees become trees tree_of each_lowers_to) first y ∙ (λ i. map_block same trees (all_same i) y)))

step_bind : (x : LetLevel trees) (y : LetLevel same) → map_bind same trees first y ≡ x → SameLet (roll-Let x)
step_bind x y is =
    subst (λ z. SameLet (roll-Let z)) is
    (ap (λ p. p.0) (fold_bind-roll become becoming (map_bind same trees first y))
    ∙ ap roll-Let
    (map_bind-twice trees become trees tree_of each_lowers_to (map_bind same trees first y)
    ∙ map_bind-twice same trees trees (composed trees become trees tree_of each_lowers_to) first y ∙ (λ i. map_bind same trees (all_same i) y)))

step_arg : (x : ArgLevel trees) (y : ArgLevel same) → map_arg same trees first y ≡ x → SameArg (roll-Arg x)
step_arg x y is =
    subst (λ z. SameArg (roll-Arg z)) is
    (ap (λ p. p.0) (fold_arg-roll become becoming (map_arg same trees first y))
    ∙ ap roll-Arg
    (map_arg-twice trees become trees tree_of each_lowers_to (map_arg same trees first y)
    ∙ map_arg-twice same trees trees (composed trees become trees tree_of each_lowers_to) first y ∙ (λ i. map_arg same trees (all_same i) y)))

step_arm : (x : ArmLevel trees) (y : ArmLevel same) → map_arm same trees first y ≡ x → SameArm (roll-Arm x)
step_arm x y is =
    subst (λ z. SameArm (roll-Arm z)) is
    (ap (λ p. p.0) (fold_arm-roll become becoming (map_arm same trees first y))
    ∙ ap roll-Arm
    (map_arm-twice trees become trees tree_of each_lowers_to (map_arm same trees first y)
    ∙ map_arm-twice same trees trees (composed trees become trees tree_of each_lowers_to) first y ∙ (λ i. map_arm same trees (all_same i) y)))

step_expr : (x : ExprLevel trees) (y : ExprLevel same) → map_expr same trees first y ≡ x → SameExpr (roll-Expr x)
step_expr x y is =
    subst (λ z. SameExpr (roll-Expr z)) is
    (ap (λ p. p.0) (fold_expr-roll become becoming (map_expr same trees first y))
    ∙ ap roll-Expr
    (map_expr-twice trees become trees tree_of each_lowers_to (map_expr same trees first y)
    ∙ map_expr-twice same trees trees (composed trees become trees tree_of each_lowers_to) first y ∙ (λ i. map_expr same trees (all_same i) y)))

step_field : (x : FieldValueLevel trees) (y : FieldValueLevel same) → map_field same trees first y ≡ x → SameFieldValue (roll-FieldValue x)
step_field x y is =
    subst (λ z. SameFieldValue (roll-FieldValue z)) is
    (ap (λ p. p.0) (fold_field-roll become becoming (map_field same trees first y))
    ∙ ap roll-FieldValue
    (map_field-twice trees become trees tree_of each_lowers_to (map_field same trees first y)
    ∙ map_field-twice same trees trees (composed trees become trees tree_of each_lowers_to) first y ∙ (λ i. map_field same trees (all_same i) y)))

step_loop : (x : ForLevel trees) (y : ForLevel same) → map_loop same trees first y ≡ x → SameFor (roll-For x)
step_loop x y is =
    subst (λ z. SameFor (roll-For z)) is
    (ap (λ p. p.0) (fold_loop-roll become becoming (map_loop same trees first y))
    ∙ ap roll-For
    (map_loop-twice trees become trees tree_of each_lowers_to (map_loop same trees first y)
    ∙ map_loop-twice same trees trees (composed trees become trees tree_of each_lowers_to) first y ∙ (λ i. map_loop same trees (all_same i) y)))

step_number : (x : NumberLevel trees) (y : NumberLevel same) → map_number same trees first y ≡ x → SameNumber (roll-Number x)
step_number x y is =
    subst (λ z. SameNumber (roll-Number z)) is
    (ap (λ p. p.0) (fold_number-roll become becoming (map_number same trees first y))
    ∙ ap roll-Number
    (map_number-twice trees become trees tree_of each_lowers_to (map_number same trees first y)
    ∙ map_number-twice same trees trees (composed trees become trees tree_of each_lowers_to) first y ∙ (λ i. map_number same trees (all_same i) y)))

step_pattern : (x : PatternLevel trees) (y : PatternLevel same) → map_pattern same trees first y ≡ x → SamePattern (roll-Pattern x)
step_pattern x y is =
    subst (λ z. SamePattern (roll-Pattern z)) is
    (ap (λ p. p.0) (fold_pattern-roll become becoming (map_pattern same trees first y))
    ∙ ap roll-Pattern
    (map_pattern-twice trees become trees tree_of each_lowers_to (map_pattern same trees first y)
    ∙ map_pattern-twice same trees trees (composed trees become trees tree_of each_lowers_to) first y ∙ (λ i. map_pattern same trees (all_same i) y)))

step_type_expr : (x : TypeExprLevel trees) (y : TypeExprLevel same) → map_type_expr same trees first y ≡ x → SameTypeExpr (roll-TypeExpr x)
step_type_expr x y is =
    subst (λ z. SameTypeExpr (roll-TypeExpr z)) is
    (ap (λ p. p.0) (fold_type_expr-roll become becoming (map_type_expr same trees first y))
    ∙ ap roll-TypeExpr
    (map_type_expr-twice trees become trees tree_of each_lowers_to (map_type_expr same trees first y)
    ∙ map_type_expr-twice same trees trees (composed trees become trees tree_of each_lowers_to) first y ∙ (λ i. map_type_expr same trees (all_same i) y)))

pub rebuilt_expr : (x : Expr) → SameExpr x
rebuilt_expr = ind-Expr SameStmt SameNode SameShape SameTypeNode SameBlock SameLet SameArg SameArm SameExpr SameFieldValue SameFor SameNumber SamePattern SameTypeExpr
    step_stmt step_node step_shape step_type_node step_block step_bind step_arg step_arm step_expr step_field step_loop step_number step_pattern step_type_expr

pub rebuilt_arg : (x : Arg) → SameArg x
rebuilt_arg = ind-Arg SameStmt SameNode SameShape SameTypeNode SameBlock SameLet SameArg SameArm SameExpr SameFieldValue SameFor SameNumber SamePattern SameTypeExpr
    step_stmt step_node step_shape step_type_node step_block step_bind step_arg step_arm step_expr step_field step_loop step_number step_pattern step_type_expr
