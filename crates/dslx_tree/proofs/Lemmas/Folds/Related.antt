-- Two folds over one tree: what holds of their steps holds of what they come to.
use Rattle.std.proofs.Common.{◌≡◌, sym, ap, subst, ◌∙◌}
use Rattle.dslx_tree.specs.declared.block.Stmt.TheFolds.{ind-Stmt, ind-Node, ind-Shape, ind-TypeNode, ind-Block, ind-Let, ind-Arg, ind-Arm, ind-Expr, ind-FieldValue, ind-For, ind-Number, ind-Pattern, ind-TypeExpr}
use Rattle.dslx_tree.specs.declared.block.Stmt.{Stmt, roll-Stmt}
use Rattle.dslx_tree.specs.declared.expr.Node.{Node, roll-Node}
use Rattle.dslx_tree.specs.declared.pattern.Shape.{Shape, roll-Shape}
use Rattle.dslx_tree.specs.declared.type_expr.TypeNode.{TypeNode, roll-TypeNode}
use Rattle.dslx_tree.specs.declared.block.Block.{Block, roll-Block}
use Rattle.dslx_tree.specs.declared.block.Let.{Let, roll-Let}
use Rattle.dslx_tree.specs.declared.expr.Arg.{Arg, roll-Arg}
use Rattle.dslx_tree.specs.declared.expr.Arm.{Arm, roll-Arm}
use Rattle.dslx_tree.specs.declared.expr.Expr.{Expr, roll-Expr}
use Rattle.dslx_tree.specs.declared.expr.FieldValue.{FieldValue, roll-FieldValue}
use Rattle.dslx_tree.specs.declared.expr.For.{For, roll-For}
use Rattle.dslx_tree.specs.declared.expr.Number.{Number, roll-Number}
use Rattle.dslx_tree.specs.declared.pattern.Pattern.{Pattern, roll-Pattern}
use Rattle.dslx_tree.specs.declared.type_expr.TypeExpr.{TypeExpr, roll-TypeExpr}
use Rattle.dslx_tree.proofs.Lemmas.Folds.Levels.{Carriers, trees, Maps, StmtLevel, NodeLevel, ShapeLevel, TypeNodeLevel, BlockLevel, LetLevel, ArgLevel, ArmLevel, ExprLevel, FieldValueLevel, ForLevel, NumberLevel, PatternLevel, TypeExprLevel, map_stmt, map_node, map_shape, map_type_node, map_block, map_bind, map_arg, map_arm, map_expr, map_field, map_loop, map_number, map_pattern, map_type_expr, map_stmt-twice, map_node-twice, map_shape-twice, map_type_node-twice, map_block-twice, map_bind-twice, map_arg-twice, map_arm-twice, map_expr-twice, map_field-twice, map_loop-twice, map_number-twice, map_pattern-twice, map_type_expr-twice}
use Rattle.dslx_tree.proofs.Lemmas.Folds.Folds.{Steps, folds, fold_stmt, fold_node, fold_shape, fold_type_node, fold_block, fold_bind, fold_arg, fold_arm, fold_expr, fold_field, fold_loop, fold_number, fold_pattern, fold_type_expr, fold_stmt-roll, fold_node-roll, fold_shape-roll, fold_type_node-roll, fold_block-roll, fold_bind-roll, fold_arg-roll, fold_arm-roll, fold_expr-roll, fold_field-roll, fold_loop-roll, fold_number-roll, fold_pattern-roll, fold_type_expr-roll}

-- what is to hold between what the parts of each sort come to
pub record Relations (c d : Carriers) : Type 1 where
  pub stmt : c.stmt → d.stmt → Type 0
  pub node : c.node → d.node → Type 0
  pub shape : c.shape → d.shape → Type 0
  pub type_node : c.type_node → d.type_node → Type 0
  pub block : c.block → d.block → Type 0
  pub bind : c.bind → d.bind → Type 0
  pub arg : c.arg → d.arg → Type 0
  pub arm : c.arm → d.arm → Type 0
  pub expr : c.expr → d.expr → Type 0
  pub field : c.field → d.field → Type 0
  pub loop : c.loop → d.loop → Type 0
  pub number : c.number → d.number → Type 0
  pub pattern : c.pattern → d.pattern → Type 0
  pub type_expr : c.type_expr → d.type_expr → Type 0

-- two for each part, between which that holds
abbrev pub both : (c d : Carriers) → Relations c d → Carriers
both c d r = record {
  stmt = (a : c.stmt) × (b : d.stmt) × r.stmt a b;
  node = (a : c.node) × (b : d.node) × r.node a b;
  shape = (a : c.shape) × (b : d.shape) × r.shape a b;
  type_node = (a : c.type_node) × (b : d.type_node) × r.type_node a b;
  block = (a : c.block) × (b : d.block) × r.block a b;
  bind = (a : c.bind) × (b : d.bind) × r.bind a b;
  arg = (a : c.arg) × (b : d.arg) × r.arg a b;
  arm = (a : c.arm) × (b : d.arm) × r.arm a b;
  expr = (a : c.expr) × (b : d.expr) × r.expr a b;
  field = (a : c.field) × (b : d.field) × r.field a b;
  loop = (a : c.loop) × (b : d.loop) × r.loop a b;
  number = (a : c.number) × (b : d.number) × r.number a b;
  pattern = (a : c.pattern) × (b : d.pattern) × r.pattern a b;
  type_expr = (a : c.type_expr) × (b : d.type_expr) × r.type_expr a b;
}

abbrev pub firsts : (c d : Carriers) (r : Relations c d) → Maps (both c d r) c
firsts c d r = record {
  stmt = λ p. p.0;
  node = λ p. p.0;
  shape = λ p. p.0;
  type_node = λ p. p.0;
  block = λ p. p.0;
  bind = λ p. p.0;
  arg = λ p. p.0;
  arm = λ p. p.0;
  expr = λ p. p.0;
  field = λ p. p.0;
  loop = λ p. p.0;
  number = λ p. p.0;
  pattern = λ p. p.0;
  type_expr = λ p. p.0;
}

abbrev pub seconds : (c d : Carriers) (r : Relations c d) → Maps (both c d r) d
seconds c d r = record {
  stmt = λ p. p.1;
  node = λ p. p.1;
  shape = λ p. p.1;
  type_node = λ p. p.1;
  block = λ p. p.1;
  bind = λ p. p.1;
  arg = λ p. p.1;
  arm = λ p. p.1;
  expr = λ p. p.1;
  field = λ p. p.1;
  loop = λ p. p.1;
  number = λ p. p.1;
  pattern = λ p. p.1;
  type_expr = λ p. p.1;
}

-- where it holds between the parts of a level, it holds between what the steps make of them
pub record KeepRelated (c d : Carriers) (r : Relations c d) (s : Steps c) (t : Steps d) : Type 0 where
  pub stmt : (x : StmtLevel (both c d r)) → r.stmt (s.stmt (map_stmt (both c d r) c (firsts c d r) x)) (t.stmt (map_stmt (both c d r) d (seconds c d r) x))
  pub node : (x : NodeLevel (both c d r)) → r.node (s.node (map_node (both c d r) c (firsts c d r) x)) (t.node (map_node (both c d r) d (seconds c d r) x))
  pub shape : (x : ShapeLevel (both c d r)) → r.shape (s.shape (map_shape (both c d r) c (firsts c d r) x)) (t.shape (map_shape (both c d r) d (seconds c d r) x))
  pub type_node : (x : TypeNodeLevel (both c d r)) → r.type_node (s.type_node (map_type_node (both c d r) c (firsts c d r) x)) (t.type_node (map_type_node (both c d r) d (seconds c d r) x))
  pub block : (x : BlockLevel (both c d r)) → r.block (s.block (map_block (both c d r) c (firsts c d r) x)) (t.block (map_block (both c d r) d (seconds c d r) x))
  pub bind : (x : LetLevel (both c d r)) → r.bind (s.bind (map_bind (both c d r) c (firsts c d r) x)) (t.bind (map_bind (both c d r) d (seconds c d r) x))
  pub arg : (x : ArgLevel (both c d r)) → r.arg (s.arg (map_arg (both c d r) c (firsts c d r) x)) (t.arg (map_arg (both c d r) d (seconds c d r) x))
  pub arm : (x : ArmLevel (both c d r)) → r.arm (s.arm (map_arm (both c d r) c (firsts c d r) x)) (t.arm (map_arm (both c d r) d (seconds c d r) x))
  pub expr : (x : ExprLevel (both c d r)) → r.expr (s.expr (map_expr (both c d r) c (firsts c d r) x)) (t.expr (map_expr (both c d r) d (seconds c d r) x))
  pub field : (x : FieldValueLevel (both c d r)) → r.field (s.field (map_field (both c d r) c (firsts c d r) x)) (t.field (map_field (both c d r) d (seconds c d r) x))
  pub loop : (x : ForLevel (both c d r)) → r.loop (s.loop (map_loop (both c d r) c (firsts c d r) x)) (t.loop (map_loop (both c d r) d (seconds c d r) x))
  pub number : (x : NumberLevel (both c d r)) → r.number (s.number (map_number (both c d r) c (firsts c d r) x)) (t.number (map_number (both c d r) d (seconds c d r) x))
  pub pattern : (x : PatternLevel (both c d r)) → r.pattern (s.pattern (map_pattern (both c d r) c (firsts c d r) x)) (t.pattern (map_pattern (both c d r) d (seconds c d r) x))
  pub type_expr : (x : TypeExprLevel (both c d r)) → r.type_expr (s.type_expr (map_type_expr (both c d r) c (firsts c d r) x)) (t.type_expr (map_type_expr (both c d r) d (seconds c d r) x))

between : {A B : Type 0} (R : A → B → Type 0) {a a' : A} {b b' : B} → a ≡ a' → b ≡ b' → R a' b' → R a b
between R {a' = a'} {b = b} e f h = subst (λ x. R x b) (sym e) (subst (λ y. R a' y) (sym f) h)

module _ (c d : Carriers) (r : Relations c d) (s : Steps c) (t : Steps d) where
  abbrev HoldsStmt : Stmt → Type 0
  HoldsStmt x = r.stmt (fold_stmt c s x) (fold_stmt d t x)

  abbrev HoldsNode : Node → Type 0
  HoldsNode x = r.node (fold_node c s x) (fold_node d t x)

  abbrev HoldsShape : Shape → Type 0
  HoldsShape x = r.shape (fold_shape c s x) (fold_shape d t x)

  abbrev HoldsTypeNode : TypeNode → Type 0
  HoldsTypeNode x = r.type_node (fold_type_node c s x) (fold_type_node d t x)

  abbrev HoldsBlock : Block → Type 0
  HoldsBlock x = r.block (fold_block c s x) (fold_block d t x)

  abbrev HoldsLet : Let → Type 0
  HoldsLet x = r.bind (fold_bind c s x) (fold_bind d t x)

  abbrev HoldsArg : Arg → Type 0
  HoldsArg x = r.arg (fold_arg c s x) (fold_arg d t x)

  abbrev HoldsArm : Arm → Type 0
  HoldsArm x = r.arm (fold_arm c s x) (fold_arm d t x)

  abbrev HoldsExpr : Expr → Type 0
  HoldsExpr x = r.expr (fold_expr c s x) (fold_expr d t x)

  abbrev HoldsFieldValue : FieldValue → Type 0
  HoldsFieldValue x = r.field (fold_field c s x) (fold_field d t x)

  abbrev HoldsFor : For → Type 0
  HoldsFor x = r.loop (fold_loop c s x) (fold_loop d t x)

  abbrev HoldsNumber : Number → Type 0
  HoldsNumber x = r.number (fold_number c s x) (fold_number d t x)

  abbrev HoldsPattern : Pattern → Type 0
  HoldsPattern x = r.pattern (fold_pattern c s x) (fold_pattern d t x)

  abbrev HoldsTypeExpr : TypeExpr → Type 0
  HoldsTypeExpr x = r.type_expr (fold_type_expr c s x) (fold_type_expr d t x)

  -- trees of which it holds
  abbrev holding : Carriers
  holding = record {
    stmt = (x : Stmt) × HoldsStmt x;
    node = (x : Node) × HoldsNode x;
    shape = (x : Shape) × HoldsShape x;
    type_node = (x : TypeNode) × HoldsTypeNode x;
    block = (x : Block) × HoldsBlock x;
    bind = (x : Let) × HoldsLet x;
    arg = (x : Arg) × HoldsArg x;
    arm = (x : Arm) × HoldsArm x;
    expr = (x : Expr) × HoldsExpr x;
    field = (x : FieldValue) × HoldsFieldValue x;
    loop = (x : For) × HoldsFor x;
    number = (x : Number) × HoldsNumber x;
    pattern = (x : Pattern) × HoldsPattern x;
    type_expr = (x : TypeExpr) × HoldsTypeExpr x;
  }

  abbrev tree_of : Maps holding trees
  tree_of = record {
    stmt = λ p. p.0;
    node = λ p. p.0;
    shape = λ p. p.0;
    type_node = λ p. p.0;
    block = λ p. p.0;
    bind = λ p. p.0;
    arg = λ p. p.0;
    arm = λ p. p.0;
    expr = λ p. p.0;
    field = λ p. p.0;
    loop = λ p. p.0;
    number = λ p. p.0;
    pattern = λ p. p.0;
    type_expr = λ p. p.0;
  }

  abbrev come_to : Maps holding (both c d r)
  come_to = record {
    stmt = λ p. (fold_stmt c s p.0, fold_stmt d t p.0, p.1);
    node = λ p. (fold_node c s p.0, fold_node d t p.0, p.1);
    shape = λ p. (fold_shape c s p.0, fold_shape d t p.0, p.1);
    type_node = λ p. (fold_type_node c s p.0, fold_type_node d t p.0, p.1);
    block = λ p. (fold_block c s p.0, fold_block d t p.0, p.1);
    bind = λ p. (fold_bind c s p.0, fold_bind d t p.0, p.1);
    arg = λ p. (fold_arg c s p.0, fold_arg d t p.0, p.1);
    arm = λ p. (fold_arm c s p.0, fold_arm d t p.0, p.1);
    expr = λ p. (fold_expr c s p.0, fold_expr d t p.0, p.1);
    field = λ p. (fold_field c s p.0, fold_field d t p.0, p.1);
    loop = λ p. (fold_loop c s p.0, fold_loop d t p.0, p.1);
    number = λ p. (fold_number c s p.0, fold_number d t p.0, p.1);
    pattern = λ p. (fold_pattern c s p.0, fold_pattern d t p.0, p.1);
    type_expr = λ p. (fold_type_expr c s p.0, fold_type_expr d t p.0, p.1);
  }

module _ (c d : Carriers) (r : Relations c d) (s : Steps c) (t : Steps d) (keep : KeepRelated c d r s t) where
  step_stmt : (x : StmtLevel trees) (y : StmtLevel (holding c d r s t)) → map_stmt (holding c d r s t) trees (tree_of c d r s t) y ≡ x → HoldsStmt c d r s t (roll-Stmt x)
  step_stmt x y is =
      subst (λ z. HoldsStmt c d r s t (roll-Stmt z)) is
      (between r.stmt
      (fold_stmt-roll c s _ ∙ ap s.stmt (map_stmt-twice (holding c d r s t) trees c (folds c s) (tree_of c d r s t) y ∙ sym (map_stmt-twice (holding c d r s t) (both c d r) c (firsts c d r) (come_to c d r s t) y)))
      (fold_stmt-roll d t _ ∙ ap t.stmt (map_stmt-twice (holding c d r s t) trees d (folds d t) (tree_of c d r s t) y ∙ sym (map_stmt-twice (holding c d r s t) (both c d r) d (seconds c d r) (come_to c d r s t) y)))
      (keep.stmt (map_stmt (holding c d r s t) (both c d r) (come_to c d r s t) y)))

  step_node : (x : NodeLevel trees) (y : NodeLevel (holding c d r s t)) → map_node (holding c d r s t) trees (tree_of c d r s t) y ≡ x → HoldsNode c d r s t (roll-Node x)
  step_node x y is =
      subst (λ z. HoldsNode c d r s t (roll-Node z)) is
      (between r.node
      (fold_node-roll c s _ ∙ ap s.node (map_node-twice (holding c d r s t) trees c (folds c s) (tree_of c d r s t) y ∙ sym (map_node-twice (holding c d r s t) (both c d r) c (firsts c d r) (come_to c d r s t) y)))
      (fold_node-roll d t _ ∙ ap t.node (map_node-twice (holding c d r s t) trees d (folds d t) (tree_of c d r s t) y ∙ sym (map_node-twice (holding c d r s t) (both c d r) d (seconds c d r) (come_to c d r s t) y)))
      (keep.node (map_node (holding c d r s t) (both c d r) (come_to c d r s t) y)))

  step_shape : (x : ShapeLevel trees) (y : ShapeLevel (holding c d r s t)) → map_shape (holding c d r s t) trees (tree_of c d r s t) y ≡ x → HoldsShape c d r s t (roll-Shape x)
  step_shape x y is =
      subst (λ z. HoldsShape c d r s t (roll-Shape z)) is
      (between r.shape
      (fold_shape-roll c s _ ∙ ap s.shape (map_shape-twice (holding c d r s t) trees c (folds c s) (tree_of c d r s t) y ∙ sym (map_shape-twice (holding c d r s t) (both c d r) c (firsts c d r) (come_to c d r s t) y)))
      (fold_shape-roll d t _ ∙ ap t.shape (map_shape-twice (holding c d r s t) trees d (folds d t) (tree_of c d r s t) y ∙ sym (map_shape-twice (holding c d r s t) (both c d r) d (seconds c d r) (come_to c d r s t) y)))
      (keep.shape (map_shape (holding c d r s t) (both c d r) (come_to c d r s t) y)))

  step_type_node : (x : TypeNodeLevel trees) (y : TypeNodeLevel (holding c d r s t)) → map_type_node (holding c d r s t) trees (tree_of c d r s t) y ≡ x → HoldsTypeNode c d r s t (roll-TypeNode x)
  step_type_node x y is =
      subst (λ z. HoldsTypeNode c d r s t (roll-TypeNode z)) is
      (between r.type_node
      (fold_type_node-roll c s _ ∙ ap s.type_node (map_type_node-twice (holding c d r s t) trees c (folds c s) (tree_of c d r s t) y ∙ sym (map_type_node-twice (holding c d r s t) (both c d r) c (firsts c d r) (come_to c d r s t) y)))
      (fold_type_node-roll d t _ ∙ ap t.type_node (map_type_node-twice (holding c d r s t) trees d (folds d t) (tree_of c d r s t) y ∙ sym (map_type_node-twice (holding c d r s t) (both c d r) d (seconds c d r) (come_to c d r s t) y)))
      (keep.type_node (map_type_node (holding c d r s t) (both c d r) (come_to c d r s t) y)))

  step_block : (x : BlockLevel trees) (y : BlockLevel (holding c d r s t)) → map_block (holding c d r s t) trees (tree_of c d r s t) y ≡ x → HoldsBlock c d r s t (roll-Block x)
  step_block x y is =
      subst (λ z. HoldsBlock c d r s t (roll-Block z)) is
      (between r.block
      (fold_block-roll c s _ ∙ ap s.block (map_block-twice (holding c d r s t) trees c (folds c s) (tree_of c d r s t) y ∙ sym (map_block-twice (holding c d r s t) (both c d r) c (firsts c d r) (come_to c d r s t) y)))
      (fold_block-roll d t _ ∙ ap t.block (map_block-twice (holding c d r s t) trees d (folds d t) (tree_of c d r s t) y ∙ sym (map_block-twice (holding c d r s t) (both c d r) d (seconds c d r) (come_to c d r s t) y)))
      (keep.block (map_block (holding c d r s t) (both c d r) (come_to c d r s t) y)))

  step_bind : (x : LetLevel trees) (y : LetLevel (holding c d r s t)) → map_bind (holding c d r s t) trees (tree_of c d r s t) y ≡ x → HoldsLet c d r s t (roll-Let x)
  step_bind x y is =
      subst (λ z. HoldsLet c d r s t (roll-Let z)) is
      (between r.bind
      (fold_bind-roll c s _ ∙ ap s.bind (map_bind-twice (holding c d r s t) trees c (folds c s) (tree_of c d r s t) y ∙ sym (map_bind-twice (holding c d r s t) (both c d r) c (firsts c d r) (come_to c d r s t) y)))
      (fold_bind-roll d t _ ∙ ap t.bind (map_bind-twice (holding c d r s t) trees d (folds d t) (tree_of c d r s t) y ∙ sym (map_bind-twice (holding c d r s t) (both c d r) d (seconds c d r) (come_to c d r s t) y)))
      (keep.bind (map_bind (holding c d r s t) (both c d r) (come_to c d r s t) y)))

  step_arg : (x : ArgLevel trees) (y : ArgLevel (holding c d r s t)) → map_arg (holding c d r s t) trees (tree_of c d r s t) y ≡ x → HoldsArg c d r s t (roll-Arg x)
  step_arg x y is =
      subst (λ z. HoldsArg c d r s t (roll-Arg z)) is
      (between r.arg
      (fold_arg-roll c s _ ∙ ap s.arg (map_arg-twice (holding c d r s t) trees c (folds c s) (tree_of c d r s t) y ∙ sym (map_arg-twice (holding c d r s t) (both c d r) c (firsts c d r) (come_to c d r s t) y)))
      (fold_arg-roll d t _ ∙ ap t.arg (map_arg-twice (holding c d r s t) trees d (folds d t) (tree_of c d r s t) y ∙ sym (map_arg-twice (holding c d r s t) (both c d r) d (seconds c d r) (come_to c d r s t) y)))
      (keep.arg (map_arg (holding c d r s t) (both c d r) (come_to c d r s t) y)))

  step_arm : (x : ArmLevel trees) (y : ArmLevel (holding c d r s t)) → map_arm (holding c d r s t) trees (tree_of c d r s t) y ≡ x → HoldsArm c d r s t (roll-Arm x)
  step_arm x y is =
      subst (λ z. HoldsArm c d r s t (roll-Arm z)) is
      (between r.arm
      (fold_arm-roll c s _ ∙ ap s.arm (map_arm-twice (holding c d r s t) trees c (folds c s) (tree_of c d r s t) y ∙ sym (map_arm-twice (holding c d r s t) (both c d r) c (firsts c d r) (come_to c d r s t) y)))
      (fold_arm-roll d t _ ∙ ap t.arm (map_arm-twice (holding c d r s t) trees d (folds d t) (tree_of c d r s t) y ∙ sym (map_arm-twice (holding c d r s t) (both c d r) d (seconds c d r) (come_to c d r s t) y)))
      (keep.arm (map_arm (holding c d r s t) (both c d r) (come_to c d r s t) y)))

  step_expr : (x : ExprLevel trees) (y : ExprLevel (holding c d r s t)) → map_expr (holding c d r s t) trees (tree_of c d r s t) y ≡ x → HoldsExpr c d r s t (roll-Expr x)
  step_expr x y is =
      subst (λ z. HoldsExpr c d r s t (roll-Expr z)) is
      (between r.expr
      (fold_expr-roll c s _ ∙ ap s.expr (map_expr-twice (holding c d r s t) trees c (folds c s) (tree_of c d r s t) y ∙ sym (map_expr-twice (holding c d r s t) (both c d r) c (firsts c d r) (come_to c d r s t) y)))
      (fold_expr-roll d t _ ∙ ap t.expr (map_expr-twice (holding c d r s t) trees d (folds d t) (tree_of c d r s t) y ∙ sym (map_expr-twice (holding c d r s t) (both c d r) d (seconds c d r) (come_to c d r s t) y)))
      (keep.expr (map_expr (holding c d r s t) (both c d r) (come_to c d r s t) y)))

  step_field : (x : FieldValueLevel trees) (y : FieldValueLevel (holding c d r s t)) → map_field (holding c d r s t) trees (tree_of c d r s t) y ≡ x → HoldsFieldValue c d r s t (roll-FieldValue x)
  step_field x y is =
      subst (λ z. HoldsFieldValue c d r s t (roll-FieldValue z)) is
      (between r.field
      (fold_field-roll c s _ ∙ ap s.field (map_field-twice (holding c d r s t) trees c (folds c s) (tree_of c d r s t) y ∙ sym (map_field-twice (holding c d r s t) (both c d r) c (firsts c d r) (come_to c d r s t) y)))
      (fold_field-roll d t _ ∙ ap t.field (map_field-twice (holding c d r s t) trees d (folds d t) (tree_of c d r s t) y ∙ sym (map_field-twice (holding c d r s t) (both c d r) d (seconds c d r) (come_to c d r s t) y)))
      (keep.field (map_field (holding c d r s t) (both c d r) (come_to c d r s t) y)))

  step_loop : (x : ForLevel trees) (y : ForLevel (holding c d r s t)) → map_loop (holding c d r s t) trees (tree_of c d r s t) y ≡ x → HoldsFor c d r s t (roll-For x)
  step_loop x y is =
      subst (λ z. HoldsFor c d r s t (roll-For z)) is
      (between r.loop
      (fold_loop-roll c s _ ∙ ap s.loop (map_loop-twice (holding c d r s t) trees c (folds c s) (tree_of c d r s t) y ∙ sym (map_loop-twice (holding c d r s t) (both c d r) c (firsts c d r) (come_to c d r s t) y)))
      (fold_loop-roll d t _ ∙ ap t.loop (map_loop-twice (holding c d r s t) trees d (folds d t) (tree_of c d r s t) y ∙ sym (map_loop-twice (holding c d r s t) (both c d r) d (seconds c d r) (come_to c d r s t) y)))
      (keep.loop (map_loop (holding c d r s t) (both c d r) (come_to c d r s t) y)))

  step_number : (x : NumberLevel trees) (y : NumberLevel (holding c d r s t)) → map_number (holding c d r s t) trees (tree_of c d r s t) y ≡ x → HoldsNumber c d r s t (roll-Number x)
  step_number x y is =
      subst (λ z. HoldsNumber c d r s t (roll-Number z)) is
      (between r.number
      (fold_number-roll c s _ ∙ ap s.number (map_number-twice (holding c d r s t) trees c (folds c s) (tree_of c d r s t) y ∙ sym (map_number-twice (holding c d r s t) (both c d r) c (firsts c d r) (come_to c d r s t) y)))
      (fold_number-roll d t _ ∙ ap t.number (map_number-twice (holding c d r s t) trees d (folds d t) (tree_of c d r s t) y ∙ sym (map_number-twice (holding c d r s t) (both c d r) d (seconds c d r) (come_to c d r s t) y)))
      (keep.number (map_number (holding c d r s t) (both c d r) (come_to c d r s t) y)))

  step_pattern : (x : PatternLevel trees) (y : PatternLevel (holding c d r s t)) → map_pattern (holding c d r s t) trees (tree_of c d r s t) y ≡ x → HoldsPattern c d r s t (roll-Pattern x)
  step_pattern x y is =
      subst (λ z. HoldsPattern c d r s t (roll-Pattern z)) is
      (between r.pattern
      (fold_pattern-roll c s _ ∙ ap s.pattern (map_pattern-twice (holding c d r s t) trees c (folds c s) (tree_of c d r s t) y ∙ sym (map_pattern-twice (holding c d r s t) (both c d r) c (firsts c d r) (come_to c d r s t) y)))
      (fold_pattern-roll d t _ ∙ ap t.pattern (map_pattern-twice (holding c d r s t) trees d (folds d t) (tree_of c d r s t) y ∙ sym (map_pattern-twice (holding c d r s t) (both c d r) d (seconds c d r) (come_to c d r s t) y)))
      (keep.pattern (map_pattern (holding c d r s t) (both c d r) (come_to c d r s t) y)))

  step_type_expr : (x : TypeExprLevel trees) (y : TypeExprLevel (holding c d r s t)) → map_type_expr (holding c d r s t) trees (tree_of c d r s t) y ≡ x → HoldsTypeExpr c d r s t (roll-TypeExpr x)
  step_type_expr x y is =
      subst (λ z. HoldsTypeExpr c d r s t (roll-TypeExpr z)) is
      (between r.type_expr
      (fold_type_expr-roll c s _ ∙ ap s.type_expr (map_type_expr-twice (holding c d r s t) trees c (folds c s) (tree_of c d r s t) y ∙ sym (map_type_expr-twice (holding c d r s t) (both c d r) c (firsts c d r) (come_to c d r s t) y)))
      (fold_type_expr-roll d t _ ∙ ap t.type_expr (map_type_expr-twice (holding c d r s t) trees d (folds d t) (tree_of c d r s t) y ∙ sym (map_type_expr-twice (holding c d r s t) (both c d r) d (seconds c d r) (come_to c d r s t) y)))
      (keep.type_expr (map_type_expr (holding c d r s t) (both c d r) (come_to c d r s t) y)))

  pub related_stmt : (x : Stmt) → r.stmt (fold_stmt c s x) (fold_stmt d t x)
  related_stmt = ind-Stmt (HoldsStmt c d r s t) (HoldsNode c d r s t) (HoldsShape c d r s t) (HoldsTypeNode c d r s t) (HoldsBlock c d r s t) (HoldsLet c d r s t) (HoldsArg c d r s t) (HoldsArm c d r s t) (HoldsExpr c d r s t) (HoldsFieldValue c d r s t) (HoldsFor c d r s t) (HoldsNumber c d r s t) (HoldsPattern c d r s t) (HoldsTypeExpr c d r s t)
      step_stmt step_node step_shape step_type_node step_block step_bind step_arg step_arm step_expr step_field step_loop step_number step_pattern step_type_expr

  pub related_node : (x : Node) → r.node (fold_node c s x) (fold_node d t x)
  related_node = ind-Node (HoldsStmt c d r s t) (HoldsNode c d r s t) (HoldsShape c d r s t) (HoldsTypeNode c d r s t) (HoldsBlock c d r s t) (HoldsLet c d r s t) (HoldsArg c d r s t) (HoldsArm c d r s t) (HoldsExpr c d r s t) (HoldsFieldValue c d r s t) (HoldsFor c d r s t) (HoldsNumber c d r s t) (HoldsPattern c d r s t) (HoldsTypeExpr c d r s t)
      step_stmt step_node step_shape step_type_node step_block step_bind step_arg step_arm step_expr step_field step_loop step_number step_pattern step_type_expr

  pub related_shape : (x : Shape) → r.shape (fold_shape c s x) (fold_shape d t x)
  related_shape = ind-Shape (HoldsStmt c d r s t) (HoldsNode c d r s t) (HoldsShape c d r s t) (HoldsTypeNode c d r s t) (HoldsBlock c d r s t) (HoldsLet c d r s t) (HoldsArg c d r s t) (HoldsArm c d r s t) (HoldsExpr c d r s t) (HoldsFieldValue c d r s t) (HoldsFor c d r s t) (HoldsNumber c d r s t) (HoldsPattern c d r s t) (HoldsTypeExpr c d r s t)
      step_stmt step_node step_shape step_type_node step_block step_bind step_arg step_arm step_expr step_field step_loop step_number step_pattern step_type_expr

  pub related_type_node : (x : TypeNode) → r.type_node (fold_type_node c s x) (fold_type_node d t x)
  related_type_node = ind-TypeNode (HoldsStmt c d r s t) (HoldsNode c d r s t) (HoldsShape c d r s t) (HoldsTypeNode c d r s t) (HoldsBlock c d r s t) (HoldsLet c d r s t) (HoldsArg c d r s t) (HoldsArm c d r s t) (HoldsExpr c d r s t) (HoldsFieldValue c d r s t) (HoldsFor c d r s t) (HoldsNumber c d r s t) (HoldsPattern c d r s t) (HoldsTypeExpr c d r s t)
      step_stmt step_node step_shape step_type_node step_block step_bind step_arg step_arm step_expr step_field step_loop step_number step_pattern step_type_expr

  pub related_block : (x : Block) → r.block (fold_block c s x) (fold_block d t x)
  related_block = ind-Block (HoldsStmt c d r s t) (HoldsNode c d r s t) (HoldsShape c d r s t) (HoldsTypeNode c d r s t) (HoldsBlock c d r s t) (HoldsLet c d r s t) (HoldsArg c d r s t) (HoldsArm c d r s t) (HoldsExpr c d r s t) (HoldsFieldValue c d r s t) (HoldsFor c d r s t) (HoldsNumber c d r s t) (HoldsPattern c d r s t) (HoldsTypeExpr c d r s t)
      step_stmt step_node step_shape step_type_node step_block step_bind step_arg step_arm step_expr step_field step_loop step_number step_pattern step_type_expr

  pub related_bind : (x : Let) → r.bind (fold_bind c s x) (fold_bind d t x)
  related_bind = ind-Let (HoldsStmt c d r s t) (HoldsNode c d r s t) (HoldsShape c d r s t) (HoldsTypeNode c d r s t) (HoldsBlock c d r s t) (HoldsLet c d r s t) (HoldsArg c d r s t) (HoldsArm c d r s t) (HoldsExpr c d r s t) (HoldsFieldValue c d r s t) (HoldsFor c d r s t) (HoldsNumber c d r s t) (HoldsPattern c d r s t) (HoldsTypeExpr c d r s t)
      step_stmt step_node step_shape step_type_node step_block step_bind step_arg step_arm step_expr step_field step_loop step_number step_pattern step_type_expr

  pub related_arg : (x : Arg) → r.arg (fold_arg c s x) (fold_arg d t x)
  related_arg = ind-Arg (HoldsStmt c d r s t) (HoldsNode c d r s t) (HoldsShape c d r s t) (HoldsTypeNode c d r s t) (HoldsBlock c d r s t) (HoldsLet c d r s t) (HoldsArg c d r s t) (HoldsArm c d r s t) (HoldsExpr c d r s t) (HoldsFieldValue c d r s t) (HoldsFor c d r s t) (HoldsNumber c d r s t) (HoldsPattern c d r s t) (HoldsTypeExpr c d r s t)
      step_stmt step_node step_shape step_type_node step_block step_bind step_arg step_arm step_expr step_field step_loop step_number step_pattern step_type_expr

  pub related_arm : (x : Arm) → r.arm (fold_arm c s x) (fold_arm d t x)
  related_arm = ind-Arm (HoldsStmt c d r s t) (HoldsNode c d r s t) (HoldsShape c d r s t) (HoldsTypeNode c d r s t) (HoldsBlock c d r s t) (HoldsLet c d r s t) (HoldsArg c d r s t) (HoldsArm c d r s t) (HoldsExpr c d r s t) (HoldsFieldValue c d r s t) (HoldsFor c d r s t) (HoldsNumber c d r s t) (HoldsPattern c d r s t) (HoldsTypeExpr c d r s t)
      step_stmt step_node step_shape step_type_node step_block step_bind step_arg step_arm step_expr step_field step_loop step_number step_pattern step_type_expr

  pub related_expr : (x : Expr) → r.expr (fold_expr c s x) (fold_expr d t x)
  related_expr = ind-Expr (HoldsStmt c d r s t) (HoldsNode c d r s t) (HoldsShape c d r s t) (HoldsTypeNode c d r s t) (HoldsBlock c d r s t) (HoldsLet c d r s t) (HoldsArg c d r s t) (HoldsArm c d r s t) (HoldsExpr c d r s t) (HoldsFieldValue c d r s t) (HoldsFor c d r s t) (HoldsNumber c d r s t) (HoldsPattern c d r s t) (HoldsTypeExpr c d r s t)
      step_stmt step_node step_shape step_type_node step_block step_bind step_arg step_arm step_expr step_field step_loop step_number step_pattern step_type_expr

  pub related_field : (x : FieldValue) → r.field (fold_field c s x) (fold_field d t x)
  related_field = ind-FieldValue (HoldsStmt c d r s t) (HoldsNode c d r s t) (HoldsShape c d r s t) (HoldsTypeNode c d r s t) (HoldsBlock c d r s t) (HoldsLet c d r s t) (HoldsArg c d r s t) (HoldsArm c d r s t) (HoldsExpr c d r s t) (HoldsFieldValue c d r s t) (HoldsFor c d r s t) (HoldsNumber c d r s t) (HoldsPattern c d r s t) (HoldsTypeExpr c d r s t)
      step_stmt step_node step_shape step_type_node step_block step_bind step_arg step_arm step_expr step_field step_loop step_number step_pattern step_type_expr

  pub related_loop : (x : For) → r.loop (fold_loop c s x) (fold_loop d t x)
  related_loop = ind-For (HoldsStmt c d r s t) (HoldsNode c d r s t) (HoldsShape c d r s t) (HoldsTypeNode c d r s t) (HoldsBlock c d r s t) (HoldsLet c d r s t) (HoldsArg c d r s t) (HoldsArm c d r s t) (HoldsExpr c d r s t) (HoldsFieldValue c d r s t) (HoldsFor c d r s t) (HoldsNumber c d r s t) (HoldsPattern c d r s t) (HoldsTypeExpr c d r s t)
      step_stmt step_node step_shape step_type_node step_block step_bind step_arg step_arm step_expr step_field step_loop step_number step_pattern step_type_expr

  pub related_number : (x : Number) → r.number (fold_number c s x) (fold_number d t x)
  related_number = ind-Number (HoldsStmt c d r s t) (HoldsNode c d r s t) (HoldsShape c d r s t) (HoldsTypeNode c d r s t) (HoldsBlock c d r s t) (HoldsLet c d r s t) (HoldsArg c d r s t) (HoldsArm c d r s t) (HoldsExpr c d r s t) (HoldsFieldValue c d r s t) (HoldsFor c d r s t) (HoldsNumber c d r s t) (HoldsPattern c d r s t) (HoldsTypeExpr c d r s t)
      step_stmt step_node step_shape step_type_node step_block step_bind step_arg step_arm step_expr step_field step_loop step_number step_pattern step_type_expr

  pub related_pattern : (x : Pattern) → r.pattern (fold_pattern c s x) (fold_pattern d t x)
  related_pattern = ind-Pattern (HoldsStmt c d r s t) (HoldsNode c d r s t) (HoldsShape c d r s t) (HoldsTypeNode c d r s t) (HoldsBlock c d r s t) (HoldsLet c d r s t) (HoldsArg c d r s t) (HoldsArm c d r s t) (HoldsExpr c d r s t) (HoldsFieldValue c d r s t) (HoldsFor c d r s t) (HoldsNumber c d r s t) (HoldsPattern c d r s t) (HoldsTypeExpr c d r s t)
      step_stmt step_node step_shape step_type_node step_block step_bind step_arg step_arm step_expr step_field step_loop step_number step_pattern step_type_expr

  pub related_type_expr : (x : TypeExpr) → r.type_expr (fold_type_expr c s x) (fold_type_expr d t x)
  related_type_expr = ind-TypeExpr (HoldsStmt c d r s t) (HoldsNode c d r s t) (HoldsShape c d r s t) (HoldsTypeNode c d r s t) (HoldsBlock c d r s t) (HoldsLet c d r s t) (HoldsArg c d r s t) (HoldsArm c d r s t) (HoldsExpr c d r s t) (HoldsFieldValue c d r s t) (HoldsFor c d r s t) (HoldsNumber c d r s t) (HoldsPattern c d r s t) (HoldsTypeExpr c d r s t)
      step_stmt step_node step_shape step_type_node step_block step_bind step_arg step_arm step_expr step_field step_loop step_number step_pattern step_type_expr
