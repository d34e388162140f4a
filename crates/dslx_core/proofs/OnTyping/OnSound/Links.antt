-- The parts of a tree beside what the rules say of them and what they mean: each is the tree whose meaning it is.
use Rattle.std.proofs.Common.{◌≡◌, ap, ◌∙◌}
use Rattle.dslx_tree.specs.declared.block.Stmt.{Stmt}
use Rattle.dslx_tree.specs.declared.expr.Node.{Node}
use Rattle.dslx_tree.specs.declared.pattern.Shape.{Shape}
use Rattle.dslx_tree.specs.declared.type_expr.TypeNode.{TypeNode}
use Rattle.dslx_tree.specs.declared.block.Block.{Block}
use Rattle.dslx_tree.specs.declared.block.Let.{Let}
use Rattle.dslx_tree.specs.declared.expr.Arg.{Arg}
use Rattle.dslx_tree.specs.declared.expr.Arm.{Arm}
use Rattle.dslx_tree.specs.declared.expr.Expr.{Expr}
use Rattle.dslx_tree.specs.declared.expr.FieldValue.{FieldValue}
use Rattle.dslx_tree.specs.declared.expr.For.{For}
use Rattle.dslx_tree.specs.declared.expr.Number.{Number}
use Rattle.dslx_tree.specs.declared.pattern.Pattern.{Pattern}
use Rattle.dslx_tree.specs.declared.type_expr.TypeExpr.{TypeExpr}
use Rattle.dslx_tree.proofs.Lemmas.Folds.Levels.{Carriers, trees, Maps, composed, StmtLevel, NodeLevel, ShapeLevel, TypeNodeLevel, BlockLevel, LetLevel, ArgLevel, ArmLevel, ExprLevel, FieldValueLevel, ForLevel, NumberLevel, PatternLevel, TypeExprLevel, map_stmt, map_node, map_shape, map_type_node, map_block, map_bind, map_arg, map_arm, map_expr, map_field, map_loop, map_number, map_pattern, map_type_expr, map_stmt-twice, map_node-twice, map_shape-twice, map_type_node-twice, map_block-twice, map_bind-twice, map_arg-twice, map_arm-twice, map_expr-twice, map_field-twice, map_loop-twice, map_number-twice, map_pattern-twice, map_type_expr-twice}
use Rattle.dslx_tree.proofs.Lemmas.Folds.Folds.{Steps, folds, fold_stmt, fold_node, fold_shape, fold_type_node, fold_block, fold_bind, fold_arg, fold_arm, fold_expr, fold_field, fold_loop, fold_number, fold_pattern, fold_type_expr, fold_stmt-roll, fold_node-roll, fold_shape-roll, fold_type_node-roll, fold_block-roll, fold_bind-roll, fold_arg-roll, fold_arm-roll, fold_expr-roll, fold_field-roll, fold_loop-roll, fold_number-roll, fold_pattern-roll, fold_type_expr-roll}
use Rattle.dslx_tree.proofs.Lemmas.Folds.Related.{Relations, both, firsts, seconds}
use Rattle.xb_span.specs.declared.span.Span.{Span}
use Rattle.dslx_meaning.specs.Meaning as m
use Rattle.dslx_meaning.specs.Meaning.{ArmDen, ValueDen, FieldDen, StmtDen, ExprDen, PatternDen, TypeDen}
use Rattle.dslx_meaning.specs.Rules.TypeEnvs.{ExprPair, ExprTyping}
use Rattle.dslx_meaning.specs.Rules.Typings.{ArmSeen, FieldSeen, PatternTyping, TypeExprTyping, StatementTyping, typing_sorts}
use Rattle.dslx_meaning.specs.Rules.NodeRules.{typing_steps}
use Rattle.dslx_meaning.specs.Rules.Paired.{with_stmt, with_node, with_shape, with_type_node, with_block, with_bind, with_arg, with_arm, with_expr, with_field, with_loop, with_number, with_pattern, with_type_expr}

-- ---- the two folds

-- trees with what the rules say of them
abbrev pub typing : Carriers
typing = record {
  stmt = Stmt × StatementTyping;
  node = Node × (Span → ExprTyping);
  shape = Shape × (Span → PatternTyping);
  type_node = TypeNode × (Span → TypeExprTyping);
  block = Block × ExprTyping;
  bind = Let × StatementTyping;
  arg = Arg × ExprPair;
  arm = Arm × ArmSeen;
  expr = Expr × ExprTyping;
  field = FieldValue × FieldSeen;
  loop = For × (Span → TypeExprTyping);
  number = Number × (Span → TypeExprTyping);
  pattern = Pattern × PatternTyping;
  type_expr = TypeExpr × TypeExprTyping;
}

abbrev pub expr_typing : Steps typing
expr_typing = record {
  stmt = with_stmt typing_sorts typing_steps;
  node = with_node typing_sorts typing_steps;
  shape = with_shape typing_sorts typing_steps;
  type_node = with_type_node typing_sorts typing_steps;
  block = with_block typing_sorts typing_steps;
  bind = with_bind typing_sorts typing_steps;
  arg = with_arg typing_sorts typing_steps;
  arm = with_arm typing_sorts typing_steps;
  expr = with_expr typing_sorts typing_steps;
  field = with_field typing_sorts typing_steps;
  loop = with_loop typing_sorts typing_steps;
  number = with_number typing_sorts typing_steps;
  pattern = with_pattern typing_sorts typing_steps;
  type_expr = with_type_expr typing_sorts typing_steps;
}

-- what they mean
abbrev pub meanings : Carriers
meanings = record {
  stmt = StmtDen;
  node = ExprDen;
  shape = PatternDen;
  type_node = TypeDen;
  block = ValueDen;
  bind = StmtDen;
  arg = ExprDen;
  arm = ArmDen;
  expr = ExprDen;
  field = FieldDen;
  loop = ValueDen;
  number = ExprDen;
  pattern = PatternDen;
  type_expr = TypeDen;
}

abbrev pub meaning : Steps meanings
meaning = record {
  stmt = m.stmt_den;
  node = m.node_den;
  shape = m.shape_den;
  type_node = m.type_den;
  block = m.block_den;
  bind = m.let_den;
  arg = m.arg_den;
  arm = m.arm_den;
  expr = m.expr_den;
  field = m.field_den;
  loop = m.for_den;
  number = m.number_node;
  pattern = m.pattern_den;
  type_expr = m.type_expr_den;
}

abbrev tree_of : Maps typing trees
tree_of = record {
  stmt = λ p. p.0;
  node = λ p. p.0;
  shape = λ p. p.0;
  type_node = λ p. p.0;
  block = λ p. p.0;
  bind = λ p. p.0;
  arg = λ p. p.0;
  arm = λ p. p.0;
  expr = λ p. p.0;
  field = λ p. p.0;
  loop = λ p. p.0;
  number = λ p. p.0;
  pattern = λ p. p.0;
  type_expr = λ p. p.0;
}

-- ---- claims of parts, beside the fact that the one is the meaning of the other's tree

-- what is to hold of each sort
pub record Claims : Type 1 where
  pub stmt : StatementTyping → StmtDen → Type 0
  pub node : (Span → ExprTyping) → ExprDen → Type 0
  pub shape : (Span → PatternTyping) → PatternDen → Type 0
  pub type_node : (Span → TypeExprTyping) → TypeDen → Type 0
  pub block : ExprTyping → ValueDen → Type 0
  pub bind : StatementTyping → StmtDen → Type 0
  pub arg : ExprPair → ExprDen → Type 0
  pub arm : ArmSeen → ArmDen → Type 0
  pub expr : ExprTyping → ExprDen → Type 0
  pub field : FieldSeen → FieldDen → Type 0
  pub loop : (Span → TypeExprTyping) → ValueDen → Type 0
  pub number : (Span → TypeExprTyping) → ExprDen → Type 0
  pub pattern : PatternTyping → PatternDen → Type 0
  pub type_expr : TypeExprTyping → TypeDen → Type 0

abbrev pub claimed : Claims → Relations typing meanings
claimed c = record {
  stmt = λ p x. (fold_stmt meanings meaning p.0 ≡ x) × c.stmt p.1 x;
  node = λ p x. (fold_node meanings meaning p.0 ≡ x) × c.node p.1 x;
  shape = λ p x. (fold_shape meanings meaning p.0 ≡ x) × c.shape p.1 x;
  type_node = λ p x. (fold_type_node meanings meaning p.0 ≡ x) × c.type_node p.1 x;
  block = λ p x. (fold_block meanings meaning p.0 ≡ x) × c.block p.1 x;
  bind = λ p x. (fold_bind meanings meaning p.0 ≡ x) × c.bind p.1 x;
  arg = λ p x. (fold_arg meanings meaning p.0 ≡ x) × c.arg p.1 x;
  arm = λ p x. (fold_arm meanings meaning p.0 ≡ x) × c.arm p.1 x;
  expr = λ p x. (fold_expr meanings meaning p.0 ≡ x) × c.expr p.1 x;
  field = λ p x. (fold_field meanings meaning p.0 ≡ x) × c.field p.1 x;
  loop = λ p x. (fold_loop meanings meaning p.0 ≡ x) × c.loop p.1 x;
  number = λ p x. (fold_number meanings meaning p.0 ≡ x) × c.number p.1 x;
  pattern = λ p x. (fold_pattern meanings meaning p.0 ≡ x) × c.pattern p.1 x;
  type_expr = λ p x. (fold_type_expr meanings meaning p.0 ≡ x) × c.type_expr p.1 x;
}

module _ (c : Claims) where
  -- a part is what its tree means
  linked : composed (both typing meanings (claimed c)) typing meanings (composed typing trees meanings (folds meanings meaning) tree_of) (firsts typing meanings (claimed c)) ≡ seconds typing meanings (claimed c)
  linked = λ i. record {
    stmt = λ p. p.2.0 i;
    node = λ p. p.2.0 i;
    shape = λ p. p.2.0 i;
    type_node = λ p. p.2.0 i;
    block = λ p. p.2.0 i;
    bind = λ p. p.2.0 i;
    arg = λ p. p.2.0 i;
    arm = λ p. p.2.0 i;
    expr = λ p. p.2.0 i;
    field = λ p. p.2.0 i;
    loop = λ p. p.2.0 i;
    number = λ p. p.2.0 i;
    pattern = λ p. p.2.0 i;
    type_expr = λ p. p.2.0 i;
  }

  pub link_stmt : (x : StmtLevel (both typing meanings (claimed c))) → fold_stmt meanings meaning (expr_typing.stmt (map_stmt (both typing meanings (claimed c)) typing (firsts typing meanings (claimed c)) x)).0
      ≡ meaning.stmt (map_stmt (both typing meanings (claimed c)) meanings (seconds typing meanings (claimed c)) x)
  link_stmt x =
      fold_stmt-roll meanings meaning (map_stmt typing trees tree_of (map_stmt (both typing meanings (claimed c)) typing (firsts typing meanings (claimed c)) x))
      ∙ ap meaning.stmt
      (map_stmt-twice typing trees meanings (folds meanings meaning) tree_of (map_stmt (both typing meanings (claimed c)) typing (firsts typing meanings (claimed c)) x)
      ∙ map_stmt-twice (both typing meanings (claimed c)) typing meanings (composed typing trees meanings (folds meanings meaning) tree_of) (firsts typing meanings (claimed c)) x
      ∙ (λ i. map_stmt (both typing meanings (claimed c)) meanings (linked i) x))

  pub link_node : (x : NodeLevel (both typing meanings (claimed c))) → fold_node meanings meaning (expr_typing.node (map_node (both typing meanings (claimed c)) typing (firsts typing meanings (claimed c)) x)).0
      ≡ meaning.node (map_node (both typing meanings (claimed c)) meanings (seconds typing meanings (claimed c)) x)
  link_node x =
      fold_node-roll meanings meaning (map_node typing trees tree_of (map_node (both typing meanings (claimed c)) typing (firsts typing meanings (claimed c)) x))
      ∙ ap meaning.node
      (map_node-twice typing trees meanings (folds meanings meaning) tree_of (map_node (both typing meanings (claimed c)) typing (firsts typing meanings (claimed c)) x)
      ∙ map_node-twice (both typing meanings (claimed c)) typing meanings (composed typing trees meanings (folds meanings meaning) tree_of) (firsts typing meanings (claimed c)) x
      ∙ (λ i. map_node (both typing meanings (claimed c)) meanings (linked i) x))

  pub link_shape : (x : ShapeLevel (both typing meanings (claimed c))) → fold_shape meanings meaning (expr_typing.shape (map_shape (both typing meanings (claimed c)) typing (firsts typing meanings (claimed c)) x)).0
      ≡ meaning.shape (map_shape (both typing meanings (claimed c)) meanings (seconds typing meanings (claimed c)) x)
  link_shape x =
      fold_shape-roll meanings meaning (map_shape typing trees tree_of (map_shape (both typing meanings (claimed c)) typing (firsts typing meanings (claimed c)) x))
      ∙ ap meaning.shape
      (map_shape-twice typing trees meanings (folds meanings meaning) tree_of (map_shape (both typing meanings (claimed c)) typing (firsts typing meanings (claimed c)) x)
      ∙ map_shape-twice (both typing meanings (claimed c)) typing meanings (composed typing trees meanings (folds meanings meaning) tree_of) (firsts typing meanings (claimed c)) x
      ∙ (λ i. map_shape (both typing meanings (claimed c)) meanings (linked i) x))

  pub link_type_node : (x : TypeNodeLevel (both typing meanings (claimed c))) → fold_type_node meanings meaning (expr_typing.type_node (map_type_node (both typing meanings (claimed c)) typing (firsts typing meanings (claimed c)) x)).0
      ≡ meaning.type_node (map_type_node (both typing meanings (claimed c)) meanings (seconds typing meanings (claimed c)) x)
  link_type_node x =
      fold_type_node-roll meanings meaning (map_type_node typing trees tree_of (map_type_node (both typing meanings (claimed c)) typing (firsts typing meanings (claimed c)) x))
      ∙ ap meaning.type_node
      (map_type_node-twice typing trees meanings (folds meanings meaning) tree_of (map_type_node (both typing meanings (claimed c)) typing (firsts typing meanings (claimed c)) x)
      ∙ map_type_node-twice (both typing meanings (claimed c)) typing meanings (composed typing trees meanings (folds meanings meaning) tree_of) (firsts typing meanings (claimed c)) x
      ∙ (λ i. map_type_node (both typing meanings (claimed c)) meanings (linked i) x))

  pub link_block : (x : BlockLevel (both typing meanings (claimed c))) → fold_block meanings meaning (expr_typing.block (map_block (both typing meanings (claimed c)) typing (firsts typing meanings (claimed c)) x)).0
      ≡ meaning.block (map_block (both typing meanings (claimed c)) meanings (seconds typing meanings (claimed c)) x)
  link_block x =
      fold_block-roll meanings meaning (map_block typing trees tree_of (map_block (both typing meanings (claimed c)) typing (firsts typing meanings (claimed c)) x))
      ∙ ap meaning.block
      (map_block-twice typing trees meanings (folds meanings meaning) tree_of (map_block (both typing meanings (claimed c)) typing (firsts typing meanings (claimed c)) x)
      ∙ map_block-twice (both typing meanings (claimed c)) typing meanings (composed typing trees meanings (folds meanings meaning) tree_of) (firsts typing meanings (claimed c)) x
      ∙ (λ i. map_block (both typing meanings (claimed c)) meanings (linked i) x))

  pub link_bind : (x : LetLevel (both typing meanings (claimed c))) → fold_bind meanings meaning (expr_typing.bind (map_bind (both typing meanings (claimed c)) typing (firsts typing meanings (claimed c)) x)).0
      ≡ meaning.bind (map_bind (both typing meanings (claimed c)) meanings (seconds typing meanings (claimed c)) x)
  link_bind x =
      fold_bind-roll meanings meaning (map_bind typing trees tree_of (map_bind (both typing meanings (claimed c)) typing (firsts typing meanings (claimed c)) x))
      ∙ ap meaning.bind
      (map_bind-twice typing trees meanings (folds meanings meaning) tree_of (map_bind (both typing meanings (claimed c)) typing (firsts typing meanings (claimed c)) x)
      ∙ map_bind-twice (both typing meanings (claimed c)) typing meanings (composed typing trees meanings (folds meanings meaning) tree_of) (firsts typing meanings (claimed c)) x
      ∙ (λ i. map_bind (both typing meanings (claimed c)) meanings (linked i) x))

  pub link_arg : (x : ArgLevel (both typing meanings (claimed c))) → fold_arg meanings meaning (expr_typing.arg (map_arg (both typing meanings (claimed c)) typing (firsts typing meanings (claimed c)) x)).0
      ≡ meaning.arg (map_arg (both typing meanings (claimed c)) meanings (seconds typing meanings (claimed c)) x)
  link_arg x =
      fold_arg-roll meanings meaning (map_arg typing trees tree_of (map_arg (both typing meanings (claimed c)) typing (firsts typing meanings (claimed c)) x))
      ∙ ap meaning.arg
      (map_arg-twice typing trees meanings (folds meanings meaning) tree_of (map_arg (both typing meanings (claimed c)) typing (firsts typing meanings (claimed c)) x)
      ∙ map_arg-twice (both typing meanings (claimed c)) typing meanings (composed typing trees meanings (folds meanings meaning) tree_of) (firsts typing meanings (claimed c)) x
      ∙ (λ i. map_arg (both typing meanings (claimed c)) meanings (linked i) x))

  pub link_arm : (x : ArmLevel (both typing meanings (claimed c))) → fold_arm meanings meaning (expr_typing.arm (map_arm (both typing meanings (claimed c)) typing (firsts typing meanings (claimed c)) x)).0
      ≡ meaning.arm (map_arm (both typing meanings (claimed c)) meanings (seconds typing meanings (claimed c)) x)
  link_arm x =
      fold_arm-roll meanings meaning (map_arm typing trees tree_of (map_arm (both typing meanings (claimed c)) typing (firsts typing meanings (claimed c)) x))
      ∙ ap meaning.arm
      (map_arm-twice typing trees meanings (folds meanings meaning) tree_of (map_arm (both typing meanings (claimed c)) typing (firsts typing meanings (claimed c)) x)
      ∙ map_arm-twice (both typing meanings (claimed c)) typing meanings (composed typing trees meanings (folds meanings meaning) tree_of) (firsts typing meanings (claimed c)) x
      ∙ (λ i. map_arm (both typing meanings (claimed c)) meanings (linked i) x))

  pub link_expr : (x : ExprLevel (both typing meanings (claimed c))) → fold_expr meanings meaning (expr_typing.expr (map_expr (both typing meanings (claimed c)) typing (firsts typing meanings (claimed c)) x)).0
      ≡ meaning.expr (map_expr (both typing meanings (claimed c)) meanings (seconds typing meanings (claimed c)) x)
  link_expr x =
      fold_expr-roll meanings meaning (map_expr typing trees tree_of (map_expr (both typing meanings (claimed c)) typing (firsts typing meanings (claimed c)) x))
      ∙ ap meaning.expr
      (map_expr-twice typing trees meanings (folds meanings meaning) tree_of (map_expr (both typing meanings (claimed c)) typing (firsts typing meanings (claimed c)) x)
      ∙ map_expr-twice (both typing meanings (claimed c)) typing meanings (composed typing trees meanings (folds meanings meaning) tree_of) (firsts typing meanings (claimed c)) x
      ∙ (λ i. map_expr (both typing meanings (claimed c)) meanings (linked i) x))

  pub link_field : (x : FieldValueLevel (both typing meanings (claimed c))) → fold_field meanings meaning (expr_typing.field (map_field (both typing meanings (claimed c)) typing (firsts typing meanings (claimed c)) x)).0
      ≡ meaning.field (map_field (both typing meanings (claimed c)) meanings (seconds typing meanings (claimed c)) x)
  link_field x =
      fold_field-roll meanings meaning (map_field typing trees tree_of (map_field (both typing meanings (claimed c)) typing (firsts typing meanings (claimed c)) x))
      ∙ ap meaning.field
      (map_field-twice typing trees meanings (folds meanings meaning) tree_of (map_field (both typing meanings (claimed c)) typing (firsts typing meanings (claimed c)) x)
      ∙ map_field-twice (both typing meanings (claimed c)) typing meanings (composed typing trees meanings (folds meanings meaning) tree_of) (firsts typing meanings (claimed c)) x
      ∙ (λ i. map_field (both typing meanings (claimed c)) meanings (linked i) x))

  pub link_loop : (x : ForLevel (both typing meanings (claimed c))) → fold_loop meanings meaning (expr_typing.loop (map_loop (both typing meanings (claimed c)) typing (firsts typing meanings (claimed c)) x)).0
      ≡ meaning.loop (map_loop (both typing meanings (claimed c)) meanings (seconds typing meanings (claimed c)) x)
  link_loop x =
      fold_loop-roll meanings meaning (map_loop typing trees tree_of (map_loop (both typing meanings (claimed c)) typing (firsts typing meanings (claimed c)) x))
      ∙ ap meaning.loop
      (map_loop-twice typing trees meanings (folds meanings meaning) tree_of (map_loop (both typing meanings (claimed c)) typing (firsts typing meanings (claimed c)) x)
      ∙ map_loop-twice (both typing meanings (claimed c)) typing meanings (composed typing trees meanings (folds meanings meaning) tree_of) (firsts typing meanings (claimed c)) x
      ∙ (λ i. map_loop (both typing meanings (claimed c)) meanings (linked i) x))

  pub link_number : (x : NumberLevel (both typing meanings (claimed c))) → fold_number meanings meaning (expr_typing.number (map_number (both typing meanings (claimed c)) typing (firsts typing meanings (claimed c)) x)).0
      ≡ meaning.number (map_number (both typing meanings (claimed c)) meanings (seconds typing meanings (claimed c)) x)
  link_number x =
      fold_number-roll meanings meaning (map_number typing trees tree_of (map_number (both typing meanings (claimed c)) typing (firsts typing meanings (claimed c)) x))
      ∙ ap meaning.number
      (map_number-twice typing trees meanings (folds meanings meaning) tree_of (map_number (both typing meanings (claimed c)) typing (firsts typing meanings (claimed c)) x)
      ∙ map_number-twice (both typing meanings (claimed c)) typing meanings (composed typing trees meanings (folds meanings meaning) tree_of) (firsts typing meanings (claimed c)) x
      ∙ (λ i. map_number (both typing meanings (claimed c)) meanings (linked i) x))

  pub link_pattern : (x : PatternLevel (both typing meanings (claimed c))) → fold_pattern meanings meaning (expr_typing.pattern (map_pattern (both typing meanings (claimed c)) typing (firsts typing meanings (claimed c)) x)).0
      ≡ meaning.pattern (map_pattern (both typing meanings (claimed c)) meanings (seconds typing meanings (claimed c)) x)
  link_pattern x =
      fold_pattern-roll meanings meaning (map_pattern typing trees tree_of (map_pattern (both typing meanings (claimed c)) typing (firsts typing meanings (claimed c)) x))
      ∙ ap meaning.pattern
      (map_pattern-twice typing trees meanings (folds meanings meaning) tree_of (map_pattern (both typing meanings (claimed c)) typing (firsts typing meanings (claimed c)) x)
      ∙ map_pattern-twice (both typing meanings (claimed c)) typing meanings (composed typing trees meanings (folds meanings meaning) tree_of) (firsts typing meanings (claimed c)) x
      ∙ (λ i. map_pattern (both typing meanings (claimed c)) meanings (linked i) x))

  pub link_type_expr : (x : TypeExprLevel (both typing meanings (claimed c))) → fold_type_expr meanings meaning (expr_typing.type_expr (map_type_expr (both typing meanings (claimed c)) typing (firsts typing meanings (claimed c)) x)).0
      ≡ meaning.type_expr (map_type_expr (both typing meanings (claimed c)) meanings (seconds typing meanings (claimed c)) x)
  link_type_expr x =
      fold_type_expr-roll meanings meaning (map_type_expr typing trees tree_of (map_type_expr (both typing meanings (claimed c)) typing (firsts typing meanings (claimed c)) x))
      ∙ ap meaning.type_expr
      (map_type_expr-twice typing trees meanings (folds meanings meaning) tree_of (map_type_expr (both typing meanings (claimed c)) typing (firsts typing meanings (claimed c)) x)
      ∙ map_type_expr-twice (both typing meanings (claimed c)) typing meanings (composed typing trees meanings (folds meanings meaning) tree_of) (firsts typing meanings (claimed c)) x
      ∙ (λ i. map_type_expr (both typing meanings (claimed c)) meanings (linked i) x))
