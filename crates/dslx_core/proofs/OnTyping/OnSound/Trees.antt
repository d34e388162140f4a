-- Induction on all sorts of parts of a tree at once, and trees beside what they come to: each is its own.
use Rattle.std.proofs.Common.{◌≡◌, ap, subst, ◌∙◌}
use Rattle.dslx_tree.specs.declared.block.Stmt.TheFolds.{ind-Stmt, ind-Block, ind-Expr, ind-Pattern, ind-TypeExpr}
use Rattle.dslx_tree.specs.declared.block.Stmt.{Stmt, roll-Stmt}
use Rattle.dslx_tree.specs.declared.expr.Node.{Node, roll-Node}
use Rattle.dslx_tree.specs.declared.pattern.Shape.{Shape, roll-Shape}
use Rattle.dslx_tree.specs.declared.type_expr.TypeNode.{TypeNode, roll-TypeNode}
use Rattle.dslx_tree.specs.declared.block.Block.{Block, roll-Block}
use Rattle.dslx_tree.specs.declared.block.Let.{Let, roll-Let}
use Rattle.dslx_tree.specs.declared.expr.Arg.{Arg, roll-Arg}
use Rattle.dslx_tree.specs.declared.expr.Arm.{Arm, roll-Arm}
use Rattle.dslx_tree.specs.declared.expr.Expr.{Expr, roll-Expr}
use Rattle.dslx_tree.specs.declared.expr.FieldValue.{FieldValue, roll-FieldValue}
use Rattle.dslx_tree.specs.declared.expr.For.{For, roll-For}
use Rattle.dslx_tree.specs.declared.expr.Number.{Number, roll-Number}
use Rattle.dslx_tree.specs.declared.pattern.Pattern.{Pattern, roll-Pattern}
use Rattle.dslx_tree.specs.declared.type_expr.TypeExpr.{TypeExpr, roll-TypeExpr}
use Rattle.dslx_tree.proofs.Lemmas.Folds.Levels.{Carriers, trees, Maps, composed, StmtLevel, NodeLevel, ShapeLevel, TypeNodeLevel, BlockLevel, LetLevel, ArgLevel, ArmLevel, ExprLevel, FieldValueLevel, ForLevel, NumberLevel, PatternLevel, TypeExprLevel, map_stmt, map_node, map_shape, map_type_node, map_block, map_bind, map_arg, map_arm, map_expr, map_field, map_loop, map_number, map_pattern, map_type_expr, map_stmt-twice, map_node-twice, map_shape-twice, map_type_node-twice, map_block-twice, map_bind-twice, map_arg-twice, map_arm-twice, map_expr-twice, map_field-twice, map_loop-twice, map_number-twice, map_pattern-twice, map_type_expr-twice}
use Rattle.dslx_tree.proofs.Lemmas.Folds.Folds.{Steps, folds, fold_stmt, fold_node, fold_shape, fold_type_node, fold_block, fold_bind, fold_arg, fold_arm, fold_expr, fold_field, fold_loop, fold_number, fold_pattern, fold_type_expr, fold_stmt-roll, fold_node-roll, fold_shape-roll, fold_type_node-roll, fold_block-roll, fold_bind-roll, fold_arg-roll, fold_arm-roll, fold_expr-roll, fold_field-roll, fold_loop-roll, fold_number-roll, fold_pattern-roll, fold_type_expr-roll}
use Rattle.dslx_meaning.specs.Rules.Paired.{Recursion, Sorts, with_stmt, with_node, with_shape, with_type_node, with_block, with_bind, with_arg, with_arm, with_expr, with_field, with_loop, with_number, with_pattern, with_type_expr}

-- ---- induction

-- what is to hold of the trees of each sort
pub record TreeClaims : Type 1 where
  pub stmt : Stmt → Type 0
  pub node : Node → Type 0
  pub shape : Shape → Type 0
  pub type_node : TypeNode → Type 0
  pub block : Block → Type 0
  pub bind : Let → Type 0
  pub arg : Arg → Type 0
  pub arm : Arm → Type 0
  pub expr : Expr → Type 0
  pub field : FieldValue → Type 0
  pub loop : For → Type 0
  pub number : Number → Type 0
  pub pattern : Pattern → Type 0
  pub type_expr : TypeExpr → Type 0

-- trees of which it holds
abbrev pub held : TreeClaims → Carriers
held c = record {
  stmt = (x : Stmt) × c.stmt x;
  node = (x : Node) × c.node x;
  shape = (x : Shape) × c.shape x;
  type_node = (x : TypeNode) × c.type_node x;
  block = (x : Block) × c.block x;
  bind = (x : Let) × c.bind x;
  arg = (x : Arg) × c.arg x;
  arm = (x : Arm) × c.arm x;
  expr = (x : Expr) × c.expr x;
  field = (x : FieldValue) × c.field x;
  loop = (x : For) × c.loop x;
  number = (x : Number) × c.number x;
  pattern = (x : Pattern) × c.pattern x;
  type_expr = (x : TypeExpr) × c.type_expr x;
}

abbrev pub held_tree : (c : TreeClaims) → Maps (held c) trees
held_tree c = record {
  stmt = λ p. p.0;
  node = λ p. p.0;
  shape = λ p. p.0;
  type_node = λ p. p.0;
  block = λ p. p.0;
  bind = λ p. p.0;
  arg = λ p. p.0;
  arm = λ p. p.0;
  expr = λ p. p.0;
  field = λ p. p.0;
  loop = λ p. p.0;
  number = λ p. p.0;
  pattern = λ p. p.0;
  type_expr = λ p. p.0;
}

-- where it holds of the parts, it holds of the tree
pub record HoldOn (c : TreeClaims) : Type 0 where
  pub stmt : (y : StmtLevel (held c)) → c.stmt (roll-Stmt (map_stmt (held c) trees (held_tree c) y))
  pub node : (y : NodeLevel (held c)) → c.node (roll-Node (map_node (held c) trees (held_tree c) y))
  pub shape : (y : ShapeLevel (held c)) → c.shape (roll-Shape (map_shape (held c) trees (held_tree c) y))
  pub type_node : (y : TypeNodeLevel (held c)) → c.type_node (roll-TypeNode (map_type_node (held c) trees (held_tree c) y))
  pub block : (y : BlockLevel (held c)) → c.block (roll-Block (map_block (held c) trees (held_tree c) y))
  pub bind : (y : LetLevel (held c)) → c.bind (roll-Let (map_bind (held c) trees (held_tree c) y))
  pub arg : (y : ArgLevel (held c)) → c.arg (roll-Arg (map_arg (held c) trees (held_tree c) y))
  pub arm : (y : ArmLevel (held c)) → c.arm (roll-Arm (map_arm (held c) trees (held_tree c) y))
  pub expr : (y : ExprLevel (held c)) → c.expr (roll-Expr (map_expr (held c) trees (held_tree c) y))
  pub field : (y : FieldValueLevel (held c)) → c.field (roll-FieldValue (map_field (held c) trees (held_tree c) y))
  pub loop : (y : ForLevel (held c)) → c.loop (roll-For (map_loop (held c) trees (held_tree c) y))
  pub number : (y : NumberLevel (held c)) → c.number (roll-Number (map_number (held c) trees (held_tree c) y))
  pub pattern : (y : PatternLevel (held c)) → c.pattern (roll-Pattern (map_pattern (held c) trees (held_tree c) y))
  pub type_expr : (y : TypeExprLevel (held c)) → c.type_expr (roll-TypeExpr (map_type_expr (held c) trees (held_tree c) y))

module _ (c : TreeClaims) (on : HoldOn c) where
  rolled_stmt : (x : StmtLevel trees) (y : StmtLevel (held c)) → map_stmt (held c) trees (held_tree c) y ≡ x → c.stmt (roll-Stmt x)
  rolled_stmt x y is = subst (λ z. c.stmt (roll-Stmt z)) is (on.stmt y)

  rolled_node : (x : NodeLevel trees) (y : NodeLevel (held c)) → map_node (held c) trees (held_tree c) y ≡ x → c.node (roll-Node x)
  rolled_node x y is = subst (λ z. c.node (roll-Node z)) is (on.node y)

  rolled_shape : (x : ShapeLevel trees) (y : ShapeLevel (held c)) → map_shape (held c) trees (held_tree c) y ≡ x → c.shape (roll-Shape x)
  rolled_shape x y is = subst (λ z. c.shape (roll-Shape z)) is (on.shape y)

  rolled_type_node : (x : TypeNodeLevel trees) (y : TypeNodeLevel (held c)) → map_type_node (held c) trees (held_tree c) y ≡ x → c.type_node (roll-TypeNode x)
  rolled_type_node x y is = subst (λ z. c.type_node (roll-TypeNode z)) is (on.type_node y)

  rolled_block : (x : BlockLevel trees) (y : BlockLevel (held c)) → map_block (held c) trees (held_tree c) y ≡ x → c.block (roll-Block x)
  rolled_block x y is = subst (λ z. c.block (roll-Block z)) is (on.block y)

  rolled_bind : (x : LetLevel trees) (y : LetLevel (held c)) → map_bind (held c) trees (held_tree c) y ≡ x → c.bind (roll-Let x)
  rolled_bind x y is = subst (λ z. c.bind (roll-Let z)) is (on.bind y)

  rolled_arg : (x : ArgLevel trees) (y : ArgLevel (held c)) → map_arg (held c) trees (held_tree c) y ≡ x → c.arg (roll-Arg x)
  rolled_arg x y is = subst (λ z. c.arg (roll-Arg z)) is (on.arg y)

  rolled_arm : (x : ArmLevel trees) (y : ArmLevel (held c)) → map_arm (held c) trees (held_tree c) y ≡ x → c.arm (roll-Arm x)
  rolled_arm x y is = subst (λ z. c.arm (roll-Arm z)) is (on.arm y)

  rolled_expr : (x : ExprLevel trees) (y : ExprLevel (held c)) → map_expr (held c) trees (held_tree c) y ≡ x → c.expr (roll-Expr x)
  rolled_expr x y is = subst (λ z. c.expr (roll-Expr z)) is (on.expr y)

  rolled_field : (x : FieldValueLevel trees) (y : FieldValueLevel (held c)) → map_field (held c) trees (held_tree c) y ≡ x → c.field (roll-FieldValue x)
  rolled_field x y is = subst (λ z. c.field (roll-FieldValue z)) is (on.field y)

  rolled_loop : (x : ForLevel trees) (y : ForLevel (held c)) → map_loop (held c) trees (held_tree c) y ≡ x → c.loop (roll-For x)
  rolled_loop x y is = subst (λ z. c.loop (roll-For z)) is (on.loop y)

  rolled_number : (x : NumberLevel trees) (y : NumberLevel (held c)) → map_number (held c) trees (held_tree c) y ≡ x → c.number (roll-Number x)
  rolled_number x y is = subst (λ z. c.number (roll-Number z)) is (on.number y)

  rolled_pattern : (x : PatternLevel trees) (y : PatternLevel (held c)) → map_pattern (held c) trees (held_tree c) y ≡ x → c.pattern (roll-Pattern x)
  rolled_pattern x y is = subst (λ z. c.pattern (roll-Pattern z)) is (on.pattern y)

  rolled_type_expr : (x : TypeExprLevel trees) (y : TypeExprLevel (held c)) → map_type_expr (held c) trees (held_tree c) y ≡ x → c.type_expr (roll-TypeExpr x)
  rolled_type_expr x y is = subst (λ z. c.type_expr (roll-TypeExpr z)) is (on.type_expr y)

  pub holds_stmt : (x : Stmt) → c.stmt x
  holds_stmt = ind-Stmt c.stmt c.node c.shape c.type_node c.block c.bind c.arg c.arm c.expr c.field c.loop c.number c.pattern c.type_expr
      rolled_stmt rolled_node rolled_shape rolled_type_node rolled_block rolled_bind rolled_arg rolled_arm rolled_expr rolled_field rolled_loop rolled_number rolled_pattern rolled_type_expr

  pub holds_block : (x : Block) → c.block x
  holds_block = ind-Block c.stmt c.node c.shape c.type_node c.block c.bind c.arg c.arm c.expr c.field c.loop c.number c.pattern c.type_expr
      rolled_stmt rolled_node rolled_shape rolled_type_node rolled_block rolled_bind rolled_arg rolled_arm rolled_expr rolled_field rolled_loop rolled_number rolled_pattern rolled_type_expr

  pub holds_expr : (x : Expr) → c.expr x
  holds_expr = ind-Expr c.stmt c.node c.shape c.type_node c.block c.bind c.arg c.arm c.expr c.field c.loop c.number c.pattern c.type_expr
      rolled_stmt rolled_node rolled_shape rolled_type_node rolled_block rolled_bind rolled_arg rolled_arm rolled_expr rolled_field rolled_loop rolled_number rolled_pattern rolled_type_expr

  pub holds_pattern : (x : Pattern) → c.pattern x
  holds_pattern = ind-Pattern c.stmt c.node c.shape c.type_node c.block c.bind c.arg c.arm c.expr c.field c.loop c.number c.pattern c.type_expr
      rolled_stmt rolled_node rolled_shape rolled_type_node rolled_block rolled_bind rolled_arg rolled_arm rolled_expr rolled_field rolled_loop rolled_number rolled_pattern rolled_type_expr

  pub holds_type_expr : (x : TypeExpr) → c.type_expr x
  holds_type_expr = ind-TypeExpr c.stmt c.node c.shape c.type_node c.block c.bind c.arg c.arm c.expr c.field c.loop c.number c.pattern c.type_expr
      rolled_stmt rolled_node rolled_shape rolled_type_node rolled_block rolled_bind rolled_arg rolled_arm rolled_expr rolled_field rolled_loop rolled_number rolled_pattern rolled_type_expr

-- ---- trees beside what they come to

abbrev pub paired : Sorts → Carriers
paired s = record {
  stmt = Stmt × s.stmt;
  node = Node × s.node;
  shape = Shape × s.shape;
  type_node = TypeNode × s.type_node;
  block = Block × s.block;
  bind = Let × s.bind;
  arg = Arg × s.arg;
  arm = Arm × s.arm;
  expr = Expr × s.expr;
  field = FieldValue × s.field;
  loop = For × s.loop;
  number = Number × s.number;
  pattern = Pattern × s.pattern;
  type_expr = TypeExpr × s.type_expr;
}

abbrev pub pairing : (s : Sorts) → Recursion s → Steps (paired s)
pairing s steps = record {
  stmt = with_stmt s steps;
  node = with_node s steps;
  shape = with_shape s steps;
  type_node = with_type_node s steps;
  block = with_block s steps;
  bind = with_bind s steps;
  arg = with_arg s steps;
  arm = with_arm s steps;
  expr = with_expr s steps;
  field = with_field s steps;
  loop = with_loop s steps;
  number = with_number s steps;
  pattern = with_pattern s steps;
  type_expr = with_type_expr s steps;
}

module _ (s : Sorts) (steps : Recursion s) where
  abbrev beside_tree : Maps (paired s) trees
  beside_tree = record {
    stmt = λ p. p.0;
    node = λ p. p.0;
    shape = λ p. p.0;
    type_node = λ p. p.0;
    block = λ p. p.0;
    bind = λ p. p.0;
    arg = λ p. p.0;
    arm = λ p. p.0;
    expr = λ p. p.0;
    field = λ p. p.0;
    loop = λ p. p.0;
    number = λ p. p.0;
    pattern = λ p. p.0;
    type_expr = λ p. p.0;
  }

  -- the tree that stands beside is the tree itself
  abbrev own : TreeClaims
  own = record {
    stmt = λ x. (fold_stmt (paired s) (pairing s steps) x).0 ≡ x;
    node = λ x. (fold_node (paired s) (pairing s steps) x).0 ≡ x;
    shape = λ x. (fold_shape (paired s) (pairing s steps) x).0 ≡ x;
    type_node = λ x. (fold_type_node (paired s) (pairing s steps) x).0 ≡ x;
    block = λ x. (fold_block (paired s) (pairing s steps) x).0 ≡ x;
    bind = λ x. (fold_bind (paired s) (pairing s steps) x).0 ≡ x;
    arg = λ x. (fold_arg (paired s) (pairing s steps) x).0 ≡ x;
    arm = λ x. (fold_arm (paired s) (pairing s steps) x).0 ≡ x;
    expr = λ x. (fold_expr (paired s) (pairing s steps) x).0 ≡ x;
    field = λ x. (fold_field (paired s) (pairing s steps) x).0 ≡ x;
    loop = λ x. (fold_loop (paired s) (pairing s steps) x).0 ≡ x;
    number = λ x. (fold_number (paired s) (pairing s steps) x).0 ≡ x;
    pattern = λ x. (fold_pattern (paired s) (pairing s steps) x).0 ≡ x;
    type_expr = λ x. (fold_type_expr (paired s) (pairing s steps) x).0 ≡ x;
  }

  own_parts : composed (held own) (paired s) trees beside_tree (composed (held own) trees (paired s) (folds (paired s) (pairing s steps)) (held_tree own)) ≡ held_tree own
  own_parts = λ i. record {
    stmt = λ p. p.1 i;
    node = λ p. p.1 i;
    shape = λ p. p.1 i;
    type_node = λ p. p.1 i;
    block = λ p. p.1 i;
    bind = λ p. p.1 i;
    arg = λ p. p.1 i;
    arm = λ p. p.1 i;
    expr = λ p. p.1 i;
    field = λ p. p.1 i;
    loop = λ p. p.1 i;
    number = λ p. p.1 i;
    pattern = λ p. p.1 i;
    type_expr = λ p. p.1 i;
  }

  own_on : HoldOn own
  own_on = record {
    stmt = λ y.
        ap (λ p. p.0) (fold_stmt-roll (paired s) (pairing s steps) (map_stmt (held own) trees (held_tree own) y))
        ∙ ap roll-Stmt
        (ap (map_stmt (paired s) trees beside_tree) (map_stmt-twice (held own) trees (paired s) (folds (paired s) (pairing s steps)) (held_tree own) y)
        ∙ map_stmt-twice (held own) (paired s) trees beside_tree (composed (held own) trees (paired s) (folds (paired s) (pairing s steps)) (held_tree own)) y
        ∙ (λ i. map_stmt (held own) trees (own_parts i) y));
    node = λ y.
        ap (λ p. p.0) (fold_node-roll (paired s) (pairing s steps) (map_node (held own) trees (held_tree own) y))
        ∙ ap roll-Node
        (ap (map_node (paired s) trees beside_tree) (map_node-twice (held own) trees (paired s) (folds (paired s) (pairing s steps)) (held_tree own) y)
        ∙ map_node-twice (held own) (paired s) trees beside_tree (composed (held own) trees (paired s) (folds (paired s) (pairing s steps)) (held_tree own)) y
        ∙ (λ i. map_node (held own) trees (own_parts i) y));
    shape = λ y.
        ap (λ p. p.0) (fold_shape-roll (paired s) (pairing s steps) (map_shape (held own) trees (held_tree own) y))
        ∙ ap roll-Shape
        (ap (map_shape (paired s) trees beside_tree) (map_shape-twice (held own) trees (paired s) (folds (paired s) (pairing s steps)) (held_tree own) y)
        ∙ map_shape-twice (held own) (paired s) trees beside_tree (composed (held own) trees (paired s) (folds (paired s) (pairing s steps)) (held_tree own)) y
        ∙ (λ i. map_shape (held own) trees (own_parts i) y));
    type_node = λ y.
        ap (λ p. p.0) (fold_type_node-roll (paired s) (pairing s steps) (map_type_node (held own) trees (held_tree own) y))
        ∙ ap roll-TypeNode
        (ap (map_type_node (paired s) trees beside_tree) (map_type_node-twice (held own) trees (paired s) (folds (paired s) (pairing s steps)) (held_tree own) y)
        ∙ map_type_node-twice (held own) (paired s) trees beside_tree (composed (held own) trees (paired s) (folds (paired s) (pairing s steps)) (held_tree own)) y
        ∙ (λ i. map_type_node (held own) trees (own_parts i) y));
    block = λ y.
        ap (λ p. p.0) (fold_block-roll (paired s) (pairing s steps) (map_block (held own) trees (held_tree own) y))
        ∙ ap roll-Block
        (ap (map_block (paired s) trees beside_tree) (map_block-twice (held own) trees (paired s) (folds (paired s) (pairing s steps)) (held_tree own) y)
        ∙ map_block-twice (held own) (paired s) trees beside_tree (composed (held own) trees (paired s) (folds (paired s) (pairing s steps)) (held_tree own)) y
        ∙ (λ i. map_block (held own) trees (own_parts i) y));
    bind = λ y.
        ap (λ p. p.0) (fold_bind-roll (paired s) (pairing s steps) (map_bind (held own) trees (held_tree own) y))
        ∙ ap roll-Let
        (ap (map_bind (paired s) trees beside_tree) (map_bind-twice (held own) trees (paired s) (folds (paired s) (pairing s steps)) (held_tree own) y)
        ∙ map_bind-twice (held own) (paired s) trees beside_tree (composed (held own) trees (paired s) (folds (paired s) (pairing s steps)) (held_tree own)) y
        ∙ (λ i. map_bind (held own) trees (own_parts i) y));
    arg = λ y.
        ap (λ p. p.0) (fold_arg-roll (paired s) (pairing s steps) (map_arg (held own) trees (held_tree own) y))
        ∙ ap roll-Arg
        (ap (map_arg (paired s) trees beside_tree) (map_arg-twice (held own) trees (paired s) (folds (paired s) (pairing s steps)) (held_tree own) y)
        ∙ map_arg-twice (held own) (paired s) trees beside_tree (composed (held own) trees (paired s) (folds (paired s) (pairing s steps)) (held_tree own)) y
        ∙ (λ i. map_arg (held own) trees (own_parts i) y));
    arm = λ y.
        ap (λ p. p.0) (fold_arm-roll (paired s) (pairing s steps) (map_arm (held own) trees (held_tree own) y))
        ∙ ap roll-Arm
        (ap (map_arm (paired s) trees beside_tree) (map_arm-twice (held own) trees (paired s) (folds (paired s) (pairing s steps)) (held_tree own) y)
        ∙ map_arm-twice (held own) (paired s) trees beside_tree (composed (held own) trees (paired s) (folds (paired s) (pairing s steps)) (held_tree own)) y
        ∙ (λ i. map_arm (held own) trees (own_parts i) y));
    expr = λ y.
        ap (λ p. p.0) (fold_expr-roll (paired s) (pairing s steps) (map_expr (held own) trees (held_tree own) y))
        ∙ ap roll-Expr
        (ap (map_expr (paired s) trees beside_tree) (map_expr-twice (held own) trees (paired s) (folds (paired s) (pairing s steps)) (held_tree own) y)
        ∙ map_expr-twice (held own) (paired s) trees beside_tree (composed (held own) trees (paired s) (folds (paired s) (pairing s steps)) (held_tree own)) y
        ∙ (λ i. map_expr (held own) trees (own_parts i) y));
    field = λ y.
        ap (λ p. p.0) (fold_field-roll (paired s) (pairing s steps) (map_field (held own) trees (held_tree own) y))
        ∙ ap roll-FieldValue
        (ap (map_field (paired s) trees beside_tree) (map_field-twice (held own) trees (paired s) (folds (paired s) (pairing s steps)) (held_tree own) y)
        ∙ map_field-twice (held own) (paired s) trees beside_tree (composed (held own) trees (paired s) (folds (paired s) (pairing s steps)) (held_tree own)) y
        ∙ (λ i. map_field (held own) trees (own_parts i) y));
    loop = λ y.
        ap (λ p. p.0) (fold_loop-roll (paired s) (pairing s steps) (map_loop (held own) trees (held_tree own) y))
        ∙ ap roll-For
        (ap (map_loop (paired s) trees beside_tree) (map_loop-twice (held own) trees (paired s) (folds (paired s) (pairing s steps)) (held_tree own) y)
        ∙ map_loop-twice (held own) (paired s) trees beside_tree (composed (held own) trees (paired s) (folds (paired s) (pairing s steps)) (held_tree own)) y
        ∙ (λ i. map_loop (held own) trees (own_parts i) y));
    number = λ y.
        ap (λ p. p.0) (fold_number-roll (paired s) (pairing s steps) (map_number (held own) trees (held_tree own) y))
        ∙ ap roll-Number
        (ap (map_number (paired s) trees beside_tree) (map_number-twice (held own) trees (paired s) (folds (paired s) (pairing s steps)) (held_tree own) y)
        ∙ map_number-twice (held own) (paired s) trees beside_tree (composed (held own) trees (paired s) (folds (paired s) (pairing s steps)) (held_tree own)) y
        ∙ (λ i. map_number (held own) trees (own_parts i) y));
    pattern = λ y.
        ap (λ p. p.0) (fold_pattern-roll (paired s) (pairing s steps) (map_pattern (held own) trees (held_tree own) y))
        ∙ ap roll-Pattern
        (ap (map_pattern (paired s) trees beside_tree) (map_pattern-twice (held own) trees (paired s) (folds (paired s) (pairing s steps)) (held_tree own) y)
        ∙ map_pattern-twice (held own) (paired s) trees beside_tree (composed (held own) trees (paired s) (folds (paired s) (pairing s steps)) (held_tree own)) y
        ∙ (λ i. map_pattern (held own) trees (own_parts i) y));
    type_expr = λ y.
        ap (λ p. p.0) (fold_type_expr-roll (paired s) (pairing s steps) (map_type_expr (held own) trees (held_tree own) y))
        ∙ ap roll-TypeExpr
        (ap (map_type_expr (paired s) trees beside_tree) (map_type_expr-twice (held own) trees (paired s) (folds (paired s) (pairing s steps)) (held_tree own) y)
        ∙ map_type_expr-twice (held own) (paired s) trees beside_tree (composed (held own) trees (paired s) (folds (paired s) (pairing s steps)) (held_tree own)) y
        ∙ (λ i. map_type_expr (held own) trees (own_parts i) y));
  }

  pub own_expr : (e : Expr) → (fold_expr (paired s) (pairing s steps) e).0 ≡ e
  own_expr = holds_expr own own_on

  pub own_block : (b : Block) → (fold_block (paired s) (pairing s steps) b).0 ≡ b
  own_block = holds_block own own_on

  pub own_pattern : (p : Pattern) → (fold_pattern (paired s) (pairing s steps) p).0 ≡ p
  own_pattern = holds_pattern own own_on

  pub own_type_expr : (t : TypeExpr) → (fold_type_expr (paired s) (pairing s steps) t).0 ≡ t
  own_type_expr = holds_type_expr own own_on
