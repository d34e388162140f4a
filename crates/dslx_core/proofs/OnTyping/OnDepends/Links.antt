-- The parts of a tree beside what the rules say of them and what they mention: both are those of the tree.
use Rattle.std.proofs.Common.{◌≡◌, ap, ◌∙◌}
use Rattle.dslx_tree.specs.declared.block.Stmt.{Stmt}
use Rattle.dslx_tree.specs.declared.expr.Node.{Node}
use Rattle.dslx_tree.specs.declared.pattern.Shape.{Shape}
use Rattle.dslx_tree.specs.declared.type_expr.TypeNode.{TypeNode}
use Rattle.dslx_tree.specs.declared.block.Block.{Block}
use Rattle.dslx_tree.specs.declared.block.Let.{Let}
use Rattle.dslx_tree.specs.declared.expr.Arg.{Arg}
use Rattle.dslx_tree.specs.declared.expr.Arm.{Arm}
use Rattle.dslx_tree.specs.declared.expr.Expr.{Expr}
use Rattle.dslx_tree.specs.declared.expr.FieldValue.{FieldValue}
use Rattle.dslx_tree.specs.declared.expr.For.{For}
use Rattle.dslx_tree.specs.declared.expr.Number.{Number}
use Rattle.dslx_tree.specs.declared.pattern.Pattern.{Pattern}
use Rattle.dslx_tree.specs.declared.type_expr.TypeExpr.{TypeExpr}
use Rattle.dslx_tree.proofs.Lemmas.Folds.Levels.{Carriers, trees, Maps, composed, StmtLevel, NodeLevel, ShapeLevel, TypeNodeLevel, BlockLevel, LetLevel, ArgLevel, ArmLevel, ExprLevel, FieldValueLevel, ForLevel, NumberLevel, PatternLevel, TypeExprLevel, map_stmt, map_node, map_shape, map_type_node, map_block, map_bind, map_arg, map_arm, map_expr, map_field, map_loop, map_number, map_pattern, map_type_expr, map_stmt-twice, map_node-twice, map_shape-twice, map_type_node-twice, map_block-twice, map_bind-twice, map_arg-twice, map_arm-twice, map_expr-twice, map_field-twice, map_loop-twice, map_number-twice, map_pattern-twice, map_type_expr-twice}
use Rattle.dslx_tree.proofs.Lemmas.Folds.Folds.{Steps, folds, fold_stmt, fold_node, fold_shape, fold_type_node, fold_block, fold_bind, fold_arg, fold_arm, fold_expr, fold_field, fold_loop, fold_number, fold_pattern, fold_type_expr, fold_stmt-roll, fold_node-roll, fold_shape-roll, fold_type_node-roll, fold_block-roll, fold_bind-roll, fold_arg-roll, fold_arm-roll, fold_expr-roll, fold_field-roll, fold_loop-roll, fold_number-roll, fold_pattern-roll, fold_type_expr-roll}
use Rattle.dslx_tree.proofs.Lemmas.Folds.Related.{Relations, both, firsts, seconds}
use Rattle.xb_span.specs.declared.span.Span.{Span}
use Rattle.dslx_meaning.specs.Rules.TypeEnvs.{ExprPair, ExprTyping}
use Rattle.dslx_meaning.specs.Rules.Typings.{ArmSeen, FieldSeen, PatternTyping, TypeExprTyping, StatementTyping, typing_sorts}
use Rattle.dslx_meaning.specs.Rules.Mentions as k
use Rattle.dslx_meaning.specs.Rules.Mentions.{Mentions, NamesBound, mentions_if}
use Rattle.dslx_meaning.specs.Rules.NodeRules.{typing_steps}
use Rattle.dslx_meaning.specs.Rules.Paired.{with_stmt, with_node, with_shape, with_type_node, with_block, with_bind, with_arg, with_arm, with_expr, with_field, with_loop, with_number, with_pattern, with_type_expr}

-- ---- the two folds

-- trees with what the rules say of them
abbrev pub typing : Carriers
typing = record {
  stmt = Stmt × StatementTyping;
  node = Node × (Span → ExprTyping);
  shape = Shape × (Span → PatternTyping);
  type_node = TypeNode × (Span → TypeExprTyping);
  block = Block × ExprTyping;
  bind = Let × StatementTyping;
  arg = Arg × ExprPair;
  arm = Arm × ArmSeen;
  expr = Expr × ExprTyping;
  field = FieldValue × FieldSeen;
  loop = For × (Span → TypeExprTyping);
  number = Number × (Span → TypeExprTyping);
  pattern = Pattern × PatternTyping;
  type_expr = TypeExpr × TypeExprTyping;
}

abbrev pub expr_typing : Steps typing
expr_typing = record {
  stmt = with_stmt typing_sorts typing_steps;
  node = with_node typing_sorts typing_steps;
  shape = with_shape typing_sorts typing_steps;
  type_node = with_type_node typing_sorts typing_steps;
  block = with_block typing_sorts typing_steps;
  bind = with_bind typing_sorts typing_steps;
  arg = with_arg typing_sorts typing_steps;
  arm = with_arm typing_sorts typing_steps;
  expr = with_expr typing_sorts typing_steps;
  field = with_field typing_sorts typing_steps;
  loop = with_loop typing_sorts typing_steps;
  number = with_number typing_sorts typing_steps;
  pattern = with_pattern typing_sorts typing_steps;
  type_expr = with_type_expr typing_sorts typing_steps;
}

-- what they mention
abbrev pub mentions : Carriers
mentions = record {
  stmt = NamesBound;
  node = Mentions;
  shape = NamesBound;
  type_node = Mentions;
  block = Mentions;
  bind = NamesBound;
  arg = Mentions;
  arm = Mentions;
  expr = Mentions;
  field = Mentions;
  loop = Mentions;
  number = Mentions;
  pattern = NamesBound;
  type_expr = Mentions;
}

abbrev pub mention_steps : Steps mentions
mention_steps = record {
  stmt = k.stmt_mentions;
  node = k.node_mentions;
  shape = k.shape_mentions;
  type_node = k.type_mentions;
  block = k.block_mentions;
  bind = k.let_mentions;
  arg = λ a. a.value;
  arm = k.arm_mentions;
  expr = λ e. e.node;
  field = k.field_mentions;
  loop = k.for_mentions;
  number = λ n. mentions_if n.ty;
  pattern = λ p. p.shape;
  type_expr = λ t. t.node;
}

abbrev tree_of : Maps typing trees
tree_of = record {
  stmt = λ p. p.0;
  node = λ p. p.0;
  shape = λ p. p.0;
  type_node = λ p. p.0;
  block = λ p. p.0;
  bind = λ p. p.0;
  arg = λ p. p.0;
  arm = λ p. p.0;
  expr = λ p. p.0;
  field = λ p. p.0;
  loop = λ p. p.0;
  number = λ p. p.0;
  pattern = λ p. p.0;
  type_expr = λ p. p.0;
}

-- ---- claims of parts, beside the fact that both are the tree's

-- what is to hold of each sort
pub record Claims : Type 1 where
  pub stmt : StatementTyping → NamesBound → Type 0
  pub node : (Span → ExprTyping) → Mentions → Type 0
  pub shape : (Span → PatternTyping) → NamesBound → Type 0
  pub type_node : (Span → TypeExprTyping) → Mentions → Type 0
  pub block : ExprTyping → Mentions → Type 0
  pub bind : StatementTyping → NamesBound → Type 0
  pub arg : ExprPair → Mentions → Type 0
  pub arm : ArmSeen → Mentions → Type 0
  pub expr : ExprTyping → Mentions → Type 0
  pub field : FieldSeen → Mentions → Type 0
  pub loop : (Span → TypeExprTyping) → Mentions → Type 0
  pub number : (Span → TypeExprTyping) → Mentions → Type 0
  pub pattern : PatternTyping → NamesBound → Type 0
  pub type_expr : TypeExprTyping → Mentions → Type 0

abbrev pub claimed : Claims → Relations typing mentions
claimed c = record {
  stmt = λ p x. (fold_stmt typing expr_typing p.0 ≡ p) × (fold_stmt mentions mention_steps p.0 ≡ x) × c.stmt p.1 x;
  node = λ p x. (fold_node typing expr_typing p.0 ≡ p) × (fold_node mentions mention_steps p.0 ≡ x) × c.node p.1 x;
  shape = λ p x. (fold_shape typing expr_typing p.0 ≡ p) × (fold_shape mentions mention_steps p.0 ≡ x) × c.shape p.1 x;
  type_node = λ p x. (fold_type_node typing expr_typing p.0 ≡ p) × (fold_type_node mentions mention_steps p.0 ≡ x) × c.type_node p.1 x;
  block = λ p x. (fold_block typing expr_typing p.0 ≡ p) × (fold_block mentions mention_steps p.0 ≡ x) × c.block p.1 x;
  bind = λ p x. (fold_bind typing expr_typing p.0 ≡ p) × (fold_bind mentions mention_steps p.0 ≡ x) × c.bind p.1 x;
  arg = λ p x. (fold_arg typing expr_typing p.0 ≡ p) × (fold_arg mentions mention_steps p.0 ≡ x) × c.arg p.1 x;
  arm = λ p x. (fold_arm typing expr_typing p.0 ≡ p) × (fold_arm mentions mention_steps p.0 ≡ x) × c.arm p.1 x;
  expr = λ p x. (fold_expr typing expr_typing p.0 ≡ p) × (fold_expr mentions mention_steps p.0 ≡ x) × c.expr p.1 x;
  field = λ p x. (fold_field typing expr_typing p.0 ≡ p) × (fold_field mentions mention_steps p.0 ≡ x) × c.field p.1 x;
  loop = λ p x. (fold_loop typing expr_typing p.0 ≡ p) × (fold_loop mentions mention_steps p.0 ≡ x) × c.loop p.1 x;
  number = λ p x. (fold_number typing expr_typing p.0 ≡ p) × (fold_number mentions mention_steps p.0 ≡ x) × c.number p.1 x;
  pattern = λ p x. (fold_pattern typing expr_typing p.0 ≡ p) × (fold_pattern mentions mention_steps p.0 ≡ x) × c.pattern p.1 x;
  type_expr = λ p x. (fold_type_expr typing expr_typing p.0 ≡ p) × (fold_type_expr mentions mention_steps p.0 ≡ x) × c.type_expr p.1 x;
}

module _ (c : Claims) where
  abbrev Parts : Carriers
  Parts = both typing mentions (claimed c)

  abbrev first : Maps Parts typing
  first = firsts typing mentions (claimed c)

  abbrev second : Maps Parts mentions
  second = seconds typing mentions (claimed c)

  -- a part is what the rules say of its tree, and mentions what its tree does
  seen_linked : composed Parts typing typing (composed typing trees typing (folds typing expr_typing) tree_of) first ≡ first
  seen_linked = λ i. record {
    stmt = λ p. p.2.0 i;
    node = λ p. p.2.0 i;
    shape = λ p. p.2.0 i;
    type_node = λ p. p.2.0 i;
    block = λ p. p.2.0 i;
    bind = λ p. p.2.0 i;
    arg = λ p. p.2.0 i;
    arm = λ p. p.2.0 i;
    expr = λ p. p.2.0 i;
    field = λ p. p.2.0 i;
    loop = λ p. p.2.0 i;
    number = λ p. p.2.0 i;
    pattern = λ p. p.2.0 i;
    type_expr = λ p. p.2.0 i;
  }

  mentions_linked : composed Parts typing mentions (composed typing trees mentions (folds mentions mention_steps) tree_of) first ≡ second
  mentions_linked = λ i. record {
    stmt = λ p. p.2.1 i;
    node = λ p. p.2.1 i;
    shape = λ p. p.2.1 i;
    type_node = λ p. p.2.1 i;
    block = λ p. p.2.1 i;
    bind = λ p. p.2.1 i;
    arg = λ p. p.2.1 i;
    arm = λ p. p.2.1 i;
    expr = λ p. p.2.1 i;
    field = λ p. p.2.1 i;
    loop = λ p. p.2.1 i;
    number = λ p. p.2.1 i;
    pattern = λ p. p.2.1 i;
    type_expr = λ p. p.2.1 i;
  }

  pub seen_stmt : (x : StmtLevel Parts) → fold_stmt typing expr_typing (expr_typing.stmt (map_stmt Parts typing first x)).0 ≡ expr_typing.stmt (map_stmt Parts typing first x)
  seen_stmt x =
      fold_stmt-roll typing expr_typing (map_stmt typing trees tree_of (map_stmt Parts typing first x))
      ∙ ap expr_typing.stmt
      (map_stmt-twice typing trees typing (folds typing expr_typing) tree_of (map_stmt Parts typing first x)
      ∙ map_stmt-twice Parts typing typing (composed typing trees typing (folds typing expr_typing) tree_of) first x ∙ (λ i. map_stmt Parts typing (seen_linked i) x))

  pub seen_node : (x : NodeLevel Parts) → fold_node typing expr_typing (expr_typing.node (map_node Parts typing first x)).0 ≡ expr_typing.node (map_node Parts typing first x)
  seen_node x =
      fold_node-roll typing expr_typing (map_node typing trees tree_of (map_node Parts typing first x))
      ∙ ap expr_typing.node
      (map_node-twice typing trees typing (folds typing expr_typing) tree_of (map_node Parts typing first x)
      ∙ map_node-twice Parts typing typing (composed typing trees typing (folds typing expr_typing) tree_of) first x ∙ (λ i. map_node Parts typing (seen_linked i) x))

  pub seen_shape : (x : ShapeLevel Parts) → fold_shape typing expr_typing (expr_typing.shape (map_shape Parts typing first x)).0 ≡ expr_typing.shape (map_shape Parts typing first x)
  seen_shape x =
      fold_shape-roll typing expr_typing (map_shape typing trees tree_of (map_shape Parts typing first x))
      ∙ ap expr_typing.shape
      (map_shape-twice typing trees typing (folds typing expr_typing) tree_of (map_shape Parts typing first x)
      ∙ map_shape-twice Parts typing typing (composed typing trees typing (folds typing expr_typing) tree_of) first x ∙ (λ i. map_shape Parts typing (seen_linked i) x))

  pub seen_type_node : (x : TypeNodeLevel Parts) → fold_type_node typing expr_typing (expr_typing.type_node (map_type_node Parts typing first x)).0 ≡ expr_typing.type_node (map_type_node Parts typing first x)
  seen_type_node x =
      fold_type_node-roll typing expr_typing (map_type_node typing trees tree_of (map_type_node Parts typing first x))
      ∙ ap expr_typing.type_node
      (map_type_node-twice typing trees typing (folds typing expr_typing) tree_of (map_type_node Parts typing first x)
      ∙ map_type_node-twice Parts typing typing (composed typing trees typing (folds typing expr_typing) tree_of) first x ∙ (λ i. map_type_node Parts typing (seen_linked i) x))

  pub seen_block : (x : BlockLevel Parts) → fold_block typing expr_typing (expr_typing.block (map_block Parts typing first x)).0 ≡ expr_typing.block (map_block Parts typing first x)
  seen_block x =
      fold_block-roll typing expr_typing (map_block typing trees tree_of (map_block Parts typing first x))
      ∙ ap expr_typing.block
      (map_block-twice typing trees typing (folds typing expr_typing) tree_of (map_block Parts typing first x)
      ∙ map_block-twice Parts typing typing (composed typing trees typing (folds typing expr_typing) tree_of) first x ∙ (λ i. map_block Parts typing (seen_linked i) x))

  pub seen_bind : (x : LetLevel Parts) → fold_bind typing expr_typing (expr_typing.bind (map_bind Parts typing first x)).0 ≡ expr_typing.bind (map_bind Parts typing first x)
  seen_bind x =
      fold_bind-roll typing expr_typing (map_bind typing trees tree_of (map_bind Parts typing first x))
      ∙ ap expr_typing.bind
      (map_bind-twice typing trees typing (folds typing expr_typing) tree_of (map_bind Parts typing first x)
      ∙ map_bind-twice Parts typing typing (composed typing trees typing (folds typing expr_typing) tree_of) first x ∙ (λ i. map_bind Parts typing (seen_linked i) x))

  pub seen_arg : (x : ArgLevel Parts) → fold_arg typing expr_typing (expr_typing.arg (map_arg Parts typing first x)).0 ≡ expr_typing.arg (map_arg Parts typing first x)
  seen_arg x =
      fold_arg-roll typing expr_typing (map_arg typing trees tree_of (map_arg Parts typing first x))
      ∙ ap expr_typing.arg
      (map_arg-twice typing trees typing (folds typing expr_typing) tree_of (map_arg Parts typing first x)
      ∙ map_arg-twice Parts typing typing (composed typing trees typing (folds typing expr_typing) tree_of) first x ∙ (λ i. map_arg Parts typing (seen_linked i) x))

  pub seen_arm : (x : ArmLevel Parts) → fold_arm typing expr_typing (expr_typing.arm (map_arm Parts typing first x)).0 ≡ expr_typing.arm (map_arm Parts typing first x)
  seen_arm x =
      fold_arm-roll typing expr_typing (map_arm typing trees tree_of (map_arm Parts typing first x))
      ∙ ap expr_typing.arm
      (map_arm-twice typing trees typing (folds typing expr_typing) tree_of (map_arm Parts typing first x)
      ∙ map_arm-twice Parts typing typing (composed typing trees typing (folds typing expr_typing) tree_of) first x ∙ (λ i. map_arm Parts typing (seen_linked i) x))

  pub seen_expr : (x : ExprLevel Parts) → fold_expr typing expr_typing (expr_typing.expr (map_expr Parts typing first x)).0 ≡ expr_typing.expr (map_expr Parts typing first x)
  seen_expr x =
      fold_expr-roll typing expr_typing (map_expr typing trees tree_of (map_expr Parts typing first x))
      ∙ ap expr_typing.expr
      (map_expr-twice typing trees typing (folds typing expr_typing) tree_of (map_expr Parts typing first x)
      ∙ map_expr-twice Parts typing typing (composed typing trees typing (folds typing expr_typing) tree_of) first x ∙ (λ i. map_expr Parts typing (seen_linked i) x))

  pub seen_field : (x : FieldValueLevel Parts) → fold_field typing expr_typing (expr_typing.field (map_field Parts typing first x)).0 ≡ expr_typing.field (map_field Parts typing first x)
  seen_field x =
      fold_field-roll typing expr_typing (map_field typing trees tree_of (map_field Parts typing first x))
      ∙ ap expr_typing.field
      (map_field-twice typing trees typing (folds typing expr_typing) tree_of (map_field Parts typing first x)
      ∙ map_field-twice Parts typing typing (composed typing trees typing (folds typing expr_typing) tree_of) first x ∙ (λ i. map_field Parts typing (seen_linked i) x))

  pub seen_loop : (x : ForLevel Parts) → fold_loop typing expr_typing (expr_typing.loop (map_loop Parts typing first x)).0 ≡ expr_typing.loop (map_loop Parts typing first x)
  seen_loop x =
      fold_loop-roll typing expr_typing (map_loop typing trees tree_of (map_loop Parts typing first x))
      ∙ ap expr_typing.loop
      (map_loop-twice typing trees typing (folds typing expr_typing) tree_of (map_loop Parts typing first x)
      ∙ map_loop-twice Parts typing typing (composed typing trees typing (folds typing expr_typing) tree_of) first x ∙ (λ i. map_loop Parts typing (seen_linked i) x))

  pub seen_number : (x : NumberLevel Parts) → fold_number typing expr_typing (expr_typing.number (map_number Parts typing first x)).0 ≡ expr_typing.number (map_number Parts typing first x)
  seen_number x =
      fold_number-roll typing expr_typing (map_number typing trees tree_of (map_number Parts typing first x))
      ∙ ap expr_typing.number
      (map_number-twice typing trees typing (folds typing expr_typing) tree_of (map_number Parts typing first x)
      ∙ map_number-twice Parts typing typing (composed typing trees typing (folds typing expr_typing) tree_of) first x ∙ (λ i. map_number Parts typing (seen_linked i) x))

  pub seen_pattern : (x : PatternLevel Parts) → fold_pattern typing expr_typing (expr_typing.pattern (map_pattern Parts typing first x)).0 ≡ expr_typing.pattern (map_pattern Parts typing first x)
  seen_pattern x =
      fold_pattern-roll typing expr_typing (map_pattern typing trees tree_of (map_pattern Parts typing first x))
      ∙ ap expr_typing.pattern
      (map_pattern-twice typing trees typing (folds typing expr_typing) tree_of (map_pattern Parts typing first x)
      ∙ map_pattern-twice Parts typing typing (composed typing trees typing (folds typing expr_typing) tree_of) first x ∙ (λ i. map_pattern Parts typing (seen_linked i) x))

  pub seen_type_expr : (x : TypeExprLevel Parts) → fold_type_expr typing expr_typing (expr_typing.type_expr (map_type_expr Parts typing first x)).0 ≡ expr_typing.type_expr (map_type_expr Parts typing first x)
  seen_type_expr x =
      fold_type_expr-roll typing expr_typing (map_type_expr typing trees tree_of (map_type_expr Parts typing first x))
      ∙ ap expr_typing.type_expr
      (map_type_expr-twice typing trees typing (folds typing expr_typing) tree_of (map_type_expr Parts typing first x)
      ∙ map_type_expr-twice Parts typing typing (composed typing trees typing (folds typing expr_typing) tree_of) first x ∙ (λ i. map_type_expr Parts typing (seen_linked i) x))

  pub mentioned_stmt : (x : StmtLevel Parts) → fold_stmt mentions mention_steps (expr_typing.stmt (map_stmt Parts typing first x)).0 ≡ mention_steps.stmt (map_stmt Parts mentions second x)
  mentioned_stmt x =
      fold_stmt-roll mentions mention_steps (map_stmt typing trees tree_of (map_stmt Parts typing first x))
      ∙ ap mention_steps.stmt
      (map_stmt-twice typing trees mentions (folds mentions mention_steps) tree_of (map_stmt Parts typing first x)
      ∙ map_stmt-twice Parts typing mentions (composed typing trees mentions (folds mentions mention_steps) tree_of) first x ∙ (λ i. map_stmt Parts mentions (mentions_linked i) x))

  pub mentioned_node : (x : NodeLevel Parts) → fold_node mentions mention_steps (expr_typing.node (map_node Parts typing first x)).0 ≡ mention_steps.node (map_node Parts mentions second x)
  mentioned_node x =
      fold_node-roll mentions mention_steps (map_node typing trees tree_of (map_node Parts typing first x))
      ∙ ap mention_steps.node
      (map_node-twice typing trees mentions (folds mentions mention_steps) tree_of (map_node Parts typing first x)
      ∙ map_node-twice Parts typing mentions (composed typing trees mentions (folds mentions mention_steps) tree_of) first x ∙ (λ i. map_node Parts mentions (mentions_linked i) x))

  pub mentioned_shape : (x : ShapeLevel Parts) → fold_shape mentions mention_steps (expr_typing.shape (map_shape Parts typing first x)).0 ≡ mention_steps.shape (map_shape Parts mentions second x)
  mentioned_shape x =
      fold_shape-roll mentions mention_steps (map_shape typing trees tree_of (map_shape Parts typing first x))
      ∙ ap mention_steps.shape
      (map_shape-twice typing trees mentions (folds mentions mention_steps) tree_of (map_shape Parts typing first x)
      ∙ map_shape-twice Parts typing mentions (composed typing trees mentions (folds mentions mention_steps) tree_of) first x ∙ (λ i. map_shape Parts mentions (mentions_linked i) x))

  pub mentioned_type_node : (x : TypeNodeLevel Parts) → fold_type_node mentions mention_steps (expr_typing.type_node (map_type_node Parts typing first x)).0 ≡ mention_steps.type_node (map_type_node Parts mentions second x)
  mentioned_type_node x =
      fold_type_node-roll mentions mention_steps (map_type_node typing trees tree_of (map_type_node Parts typing first x))
      ∙ ap mention_steps.type_node
      (map_type_node-twice typing trees mentions (folds mentions mention_steps) tree_of (map_type_node Parts typing first x)
      ∙ map_type_node-twice Parts typing mentions (composed typing trees mentions (folds mentions mention_steps) tree_of) first x ∙ (λ i. map_type_node Parts mentions (mentions_linked i) x))

  pub mentioned_block : (x : BlockLevel Parts) → fold_block mentions mention_steps (expr_typing.block (map_block Parts typing first x)).0 ≡ mention_steps.block (map_block Parts mentions second x)
  mentioned_block x =
      fold_block-roll mentions mention_steps (map_block typing trees tree_of (map_block Parts typing first x))
      ∙ ap mention_steps.block
      (map_block-twice typing trees mentions (folds mentions mention_steps) tree_of (map_block Parts typing first x)
      ∙ map_block-twice Parts typing mentions (composed typing trees mentions (folds mentions mention_steps) tree_of) first x ∙ (λ i. map_block Parts mentions (mentions_linked i) x))

  pub mentioned_bind : (x : LetLevel Parts) → fold_bind mentions mention_steps (expr_typing.bind (map_bind Parts typing first x)).0 ≡ mention_steps.bind (map_bind Parts mentions second x)
  mentioned_bind x =
      fold_bind-roll mentions mention_steps (map_bind typing trees tree_of (map_bind Parts typing first x))
      ∙ ap mention_steps.bind
      (map_bind-twice typing trees mentions (folds mentions mention_steps) tree_of (map_bind Parts typing first x)
      ∙ map_bind-twice Parts typing mentions (composed typing trees mentions (folds mentions mention_steps) tree_of) first x ∙ (λ i. map_bind Parts mentions (mentions_linked i) x))

  pub mentioned_arg : (x : ArgLevel Parts) → fold_arg mentions mention_steps (expr_typing.arg (map_arg Parts typing first x)).0 ≡ mention_steps.arg (map_arg Parts mentions second x)
  mentioned_arg x =
      fold_arg-roll mentions mention_steps (map_arg typing trees tree_of (map_arg Parts typing first x))
      ∙ ap mention_steps.arg
      (map_arg-twice typing trees mentions (folds mentions mention_steps) tree_of (map_arg Parts typing first x)
      ∙ map_arg-twice Parts typing mentions (composed typing trees mentions (folds mentions mention_steps) tree_of) first x ∙ (λ i. map_arg Parts mentions (mentions_linked i) x))

  pub mentioned_arm : (x : ArmLevel Parts) → fold_arm mentions mention_steps (expr_typing.arm (map_arm Parts typing first x)).0 ≡ mention_steps.arm (map_arm Parts mentions second x)
  mentioned_arm x =
      fold_arm-roll mentions mention_steps (map_arm typing trees tree_of (map_arm Parts typing first x))
      ∙ ap mention_steps.arm
      (map_arm-twice typing trees mentions (folds mentions mention_steps) tree_of (map_arm Parts typing first x)
      ∙ map_arm-twice Parts typing mentions (composed typing trees mentions (folds mentions mention_steps) tree_of) first x ∙ (λ i. map_arm Parts mentions (mentions_linked i) x))

  pub mentioned_expr : (x : ExprLevel Parts) → fold_expr mentions mention_steps (expr_typing.expr (map_expr Parts typing first x)).0 ≡ mention_steps.expr (map_expr Parts mentions second x)
  mentioned_expr x =
      fold_expr-roll mentions mention_steps (map_expr typing trees tree_of (map_expr Parts typing first x))
      ∙ ap mention_steps.expr
      (map_expr-twice typing trees mentions (folds mentions mention_steps) tree_of (map_expr Parts typing first x)
      ∙ map_expr-twice Parts typing mentions (composed typing trees mentions (folds mentions mention_steps) tree_of) first x ∙ (λ i. map_expr Parts mentions (mentions_linked i) x))

  pub mentioned_field : (x : FieldValueLevel Parts) → fold_field mentions mention_steps (expr_typing.field (map_field Parts typing first x)).0 ≡ mention_steps.field (map_field Parts mentions second x)
  mentioned_field x =
      fold_field-roll mentions mention_steps (map_field typing trees tree_of (map_field Parts typing first x))
      ∙ ap mention_steps.field
      (map_field-twice typing trees mentions (folds mentions mention_steps) tree_of (map_field Parts typing first x)
      ∙ map_field-twice Parts typing mentions (composed typing trees mentions (folds mentions mention_steps) tree_of) first x ∙ (λ i. map_field Parts mentions (mentions_linked i) x))

  pub mentioned_loop : (x : ForLevel Parts) → fold_loop mentions mention_steps (expr_typing.loop (map_loop Parts typing first x)).0 ≡ mention_steps.loop (map_loop Parts mentions second x)
  mentioned_loop x =
      fold_loop-roll mentions mention_steps (map_loop typing trees tree_of (map_loop Parts typing first x))
      ∙ ap mention_steps.loop
      (map_loop-twice typing trees mentions (folds mentions mention_steps) tree_of (map_loop Parts typing first x)
      ∙ map_loop-twice Parts typing mentions (composed typing trees mentions (folds mentions mention_steps) tree_of) first x ∙ (λ i. map_loop Parts mentions (mentions_linked i) x))

  pub mentioned_number : (x : NumberLevel Parts) → fold_number mentions mention_steps (expr_typing.number (map_number Parts typing first x)).0 ≡ mention_steps.number (map_number Parts mentions second x)
  mentioned_number x =
      fold_number-roll mentions mention_steps (map_number typing trees tree_of (map_number Parts typing first x))
      ∙ ap mention_steps.number
      (map_number-twice typing trees mentions (folds mentions mention_steps) tree_of (map_number Parts typing first x)
      ∙ map_number-twice Parts typing mentions (composed typing trees mentions (folds mentions mention_steps) tree_of) first x ∙ (λ i. map_number Parts mentions (mentions_linked i) x))

  pub mentioned_pattern : (x : PatternLevel Parts) → fold_pattern mentions mention_steps (expr_typing.pattern (map_pattern Parts typing first x)).0 ≡ mention_steps.pattern (map_pattern Parts mentions second x)
  mentioned_pattern x =
      fold_pattern-roll mentions mention_steps (map_pattern typing trees tree_of (map_pattern Parts typing first x))
      ∙ ap mention_steps.pattern
      (map_pattern-twice typing trees mentions (folds mentions mention_steps) tree_of (map_pattern Parts typing first x)
      ∙ map_pattern-twice Parts typing mentions (composed typing trees mentions (folds mentions mention_steps) tree_of) first x ∙ (λ i. map_pattern Parts mentions (mentions_linked i) x))

  pub mentioned_type_expr : (x : TypeExprLevel Parts) → fold_type_expr mentions mention_steps (expr_typing.type_expr (map_type_expr Parts typing first x)).0 ≡ mention_steps.type_expr (map_type_expr Parts mentions second x)
  mentioned_type_expr x =
      fold_type_expr-roll mentions mention_steps (map_type_expr typing trees tree_of (map_type_expr Parts typing first x))
      ∙ ap mention_steps.type_expr
      (map_type_expr-twice typing trees mentions (folds mentions mention_steps) tree_of (map_type_expr Parts typing first x)
      ∙ map_type_expr-twice Parts typing mentions (composed typing trees mentions (folds mentions mention_steps) tree_of) first x ∙ (λ i. map_type_expr Parts mentions (mentions_linked i) x))
