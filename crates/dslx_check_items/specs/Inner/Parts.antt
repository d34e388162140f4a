-- What the parts of a tree mention that `dslx_meaning::rules` has no word for.
use Rattle.std.specs.Prelude.{ℕ, List, [], ◌∷◌, flat_map}
use Rattle.dslx_tree.specs.declared.block.Stmt.{Stmt, fold-Stmt}
use Rattle.dslx_tree.specs.declared.block.Stmt.TheOpen.{Shape-F}
use Rattle.dslx_tree.specs.declared.expr.Arm.{Arm, fold-Arm}
use Rattle.dslx_tree.specs.declared.expr.FieldValue.{FieldValue, fold-FieldValue}
use Rattle.dslx_tree.specs.declared.expr.For.{For, fold-For}
use Rattle.dslx_tree.specs.declared.expr.Number.{Number, fold-Number}
use Rattle.dslx_tree.specs.declared.pattern.Pattern.{Pattern, fold-Pattern}
use Rattle.dslx_meaning.specs.Rules.Mentions as k
use Rattle.dslx_meaning.specs.Rules.Mentions.{Mentions, NamesBound, mentioned, mentioned_in_type, mentions_if}
use Rattle.dslx_meaning.specs.Names.ConstMachine.Layers.{PatternLayer}

-- what a pattern mentions, and the names that it binds
abbrev pub in_pattern : Pattern → NamesBound
in_pattern = fold-Pattern NamesBound Mentions NamesBound Mentions Mentions NamesBound Mentions Mentions Mentions Mentions Mentions Mentions NamesBound Mentions
    k.stmt_mentions k.node_mentions k.shape_mentions k.type_mentions k.block_mentions k.let_mentions (λ a. a.value) k.arm_mentions (λ e. e.node) k.field_mentions k.for_mentions (λ n. mentions_if n.ty) (λ p. p.shape) (λ t. t.node)

-- what a statement mentions, and the names that it binds
abbrev pub in_stmt : Stmt → NamesBound
in_stmt = fold-Stmt NamesBound Mentions NamesBound Mentions Mentions NamesBound Mentions Mentions Mentions Mentions Mentions Mentions NamesBound Mentions
    k.stmt_mentions k.node_mentions k.shape_mentions k.type_mentions k.block_mentions k.let_mentions (λ a. a.value) k.arm_mentions (λ e. e.node) k.field_mentions k.for_mentions (λ n. mentions_if n.ty) (λ p. p.shape) (λ t. t.node)

-- what an arm mentions
abbrev pub in_arm : Arm → Mentions
in_arm = fold-Arm NamesBound Mentions NamesBound Mentions Mentions NamesBound Mentions Mentions Mentions Mentions Mentions Mentions NamesBound Mentions
    k.stmt_mentions k.node_mentions k.shape_mentions k.type_mentions k.block_mentions k.let_mentions (λ a. a.value) k.arm_mentions (λ e. e.node) k.field_mentions k.for_mentions (λ n. mentions_if n.ty) (λ p. p.shape) (λ t. t.node)

-- what a field of a struct value mentions
abbrev pub in_field : FieldValue → Mentions
in_field = fold-FieldValue NamesBound Mentions NamesBound Mentions Mentions NamesBound Mentions Mentions Mentions Mentions Mentions Mentions NamesBound Mentions
    k.stmt_mentions k.node_mentions k.shape_mentions k.type_mentions k.block_mentions k.let_mentions (λ a. a.value) k.arm_mentions (λ e. e.node) k.field_mentions k.for_mentions (λ n. mentions_if n.ty) (λ p. p.shape) (λ t. t.node)

-- what a loop mentions
abbrev pub in_loop : For → Mentions
in_loop = fold-For NamesBound Mentions NamesBound Mentions Mentions NamesBound Mentions Mentions Mentions Mentions Mentions Mentions NamesBound Mentions
    k.stmt_mentions k.node_mentions k.shape_mentions k.type_mentions k.block_mentions k.let_mentions (λ a. a.value) k.arm_mentions (λ e. e.node) k.field_mentions k.for_mentions (λ n. mentions_if n.ty) (λ p. p.shape) (λ t. t.node)

-- what a number mentions
abbrev pub number_mentions : Number → Mentions
number_mentions = fold-Number NamesBound Mentions NamesBound Mentions Mentions NamesBound Mentions Mentions Mentions Mentions Mentions Mentions NamesBound Mentions
    k.stmt_mentions k.node_mentions k.shape_mentions k.type_mentions k.block_mentions k.let_mentions (λ a. a.value) k.arm_mentions (λ e. e.node) k.field_mentions k.for_mentions (λ n. mentions_if n.ty) (λ p. p.shape) (λ t. t.node)

abbrev pub pattern_mentions : Pattern → Mentions
pattern_mentions p = (in_pattern p).mentions

abbrev pub pattern_names : Pattern → List (List ℕ)
pattern_names p = (in_pattern p).names

-- the names in a pattern by what it is
abbrev pub shape_names : PatternLayer → List (List ℕ)
shape_names (Shape-F.Shape::Name name) = name ∷ []
shape_names (Shape-F.Shape::Tuple ps) = flat_map pattern_names ps
shape_names _ = []
