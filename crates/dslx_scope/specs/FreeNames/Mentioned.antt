-- What the parts of a tree mention that `dslx_meaning::rules` has no word for.
use Rattle.std.specs.Prelude.{List, map, Option}
use Rattle.std.specs.Option.{option_map}
use Rattle.dslx_tree.specs.declared.block.Stmt.{Stmt, fold-Stmt}
use Rattle.dslx_tree.specs.declared.expr.Arm.{Arm, fold-Arm}
use Rattle.dslx_tree.specs.declared.expr.Expr.{Expr}
use Rattle.dslx_tree.specs.declared.expr.FieldValue.{FieldValue, fold-FieldValue}
use Rattle.dslx_tree.specs.declared.pattern.Pattern.{Pattern, fold-Pattern}
use Rattle.dslx_meaning.specs.Rules.Mentions as k
use Rattle.dslx_meaning.specs.Rules.Mentions.{Mentions, NamesBound, mentioned, mentions_if, statements_mentions}

-- what a pattern mentions, and the names that it binds
abbrev pub in_pattern : Pattern → NamesBound
in_pattern = fold-Pattern NamesBound Mentions NamesBound Mentions Mentions NamesBound Mentions Mentions Mentions Mentions Mentions Mentions NamesBound Mentions
    k.stmt_mentions k.node_mentions k.shape_mentions k.type_mentions k.block_mentions k.let_mentions (λ a. a.value) k.arm_mentions (λ e. e.node) k.field_mentions k.for_mentions (λ n. mentions_if n.ty) (λ p. p.shape) (λ t. t.node)

-- what a statement mentions, and the names that it binds
abbrev pub in_stmt : Stmt → NamesBound
in_stmt = fold-Stmt NamesBound Mentions NamesBound Mentions Mentions NamesBound Mentions Mentions Mentions Mentions Mentions Mentions NamesBound Mentions
    k.stmt_mentions k.node_mentions k.shape_mentions k.type_mentions k.block_mentions k.let_mentions (λ a. a.value) k.arm_mentions (λ e. e.node) k.field_mentions k.for_mentions (λ n. mentions_if n.ty) (λ p. p.shape) (λ t. t.node)

-- statements and a last expression
abbrev pub in_statements : List Stmt → Option Expr → Mentions
in_statements ss last = statements_mentions (map in_stmt ss) (mentions_if (option_map mentioned last))

-- what an arm mentions
abbrev pub in_arm : Arm → Mentions
in_arm = fold-Arm NamesBound Mentions NamesBound Mentions Mentions NamesBound Mentions Mentions Mentions Mentions Mentions Mentions NamesBound Mentions
    k.stmt_mentions k.node_mentions k.shape_mentions k.type_mentions k.block_mentions k.let_mentions (λ a. a.value) k.arm_mentions (λ e. e.node) k.field_mentions k.for_mentions (λ n. mentions_if n.ty) (λ p. p.shape) (λ t. t.node)

-- what a field of a struct value mentions
abbrev pub in_field : FieldValue → Mentions
in_field = fold-FieldValue NamesBound Mentions NamesBound Mentions Mentions NamesBound Mentions Mentions Mentions Mentions Mentions Mentions NamesBound Mentions
    k.stmt_mentions k.node_mentions k.shape_mentions k.type_mentions k.block_mentions k.let_mentions (λ a. a.value) k.arm_mentions (λ e. e.node) k.field_mentions k.for_mentions (λ n. mentions_if n.ty) (λ p. p.shape) (λ t. t.node)
