-- What the parts of a tree mention, by what stands at their top.
use Rattle.std.proofs.Common.{◌≡◌, ◌++◌, ℕ, List, map, Option, Some, None, refl, ◌∙◌}
use Rattle.std.specs.Option.{option_map}
use Rattle.dslx_tree.specs.declared.block.Block.{Block, out-Block}
use Rattle.dslx_tree.specs.declared.block.Let.{Let, out-Let}
use Rattle.dslx_tree.specs.declared.block.Stmt.{Stmt, out-Stmt}
use Rattle.dslx_tree.specs.declared.block.Stmt.TheFolds.{fold_out-Stmt, fold_out-Node, fold_out-Shape, fold_out-TypeNode, fold_out-Block, fold_out-Let, fold_out-Arg, fold_out-Arm, fold_out-Expr, fold_out-FieldValue, fold_out-For, fold_out-Number, fold_out-Pattern, fold_out-TypeExpr}
use Rattle.dslx_tree.specs.declared.expr.Arg.{Arg, out-Arg}
use Rattle.dslx_tree.specs.declared.expr.Arm.{Arm, out-Arm}
use Rattle.dslx_tree.specs.declared.expr.Expr.{Expr, out-Expr}
use Rattle.dslx_tree.specs.declared.expr.FieldValue.{FieldValue, out-FieldValue}
use Rattle.dslx_tree.specs.declared.expr.For.{For, out-For}
use Rattle.dslx_tree.specs.declared.expr.Number.{Number, out-Number}
use Rattle.dslx_tree.specs.declared.pattern.Pattern.{Pattern, out-Pattern}
use Rattle.dslx_tree.specs.declared.type_expr.TypeExpr.{TypeExpr, out-TypeExpr}
use Rattle.dslx_tree.proofs.Lemmas.Folds.Levels.{Carriers, Maps, BlockLevel, FieldValueLevel, LetLevel, ForLevel, NumberLevel, trees, map_stmt, map_node, map_shape, map_type_node, map_block, map_bind, map_field, map_loop, map_number}
use Rattle.dslx_tree.proofs.Lemmas.Folds.Folds.{Steps, folds, fold_bind, fold_loop, fold_number}
use Rattle.dslx_meaning.specs.Activation.{NodeLayer, StmtLayer, node_of}
use Rattle.dslx_meaning.specs.Rules.Mentions as k
use Rattle.dslx_meaning.specs.Rules.Mentions.{Mentions, NamesBound, mentioned, mentioned_in_block, mentioned_in_type, mentioned_in_arg, mentions_if, binders_mentions, bound_behind, statements_mentions, value_mention}
use Rattle.dslx_meaning.specs.Names.ConstMachine.Layers.{PatternLayer, TypeLayer, shape_of, type_of}
use Rattle.dslx_scope.specs.FreeNames.Mentioned.{in_arm, in_field, in_pattern, in_statements, in_stmt}

abbrev pub mentions : Carriers
mentions = record {
  stmt = NamesBound;
  node = Mentions;
  shape = NamesBound;
  type_node = Mentions;
  block = Mentions;
  bind = NamesBound;
  arg = Mentions;
  arm = Mentions;
  expr = Mentions;
  field = Mentions;
  loop = Mentions;
  number = Mentions;
  pattern = NamesBound;
  type_expr = Mentions;
}

abbrev pub mention_steps : Steps mentions
mention_steps = record {
  stmt = k.stmt_mentions;
  node = k.node_mentions;
  shape = k.shape_mentions;
  type_node = k.type_mentions;
  block = k.block_mentions;
  bind = k.let_mentions;
  arg = λ a. a.value;
  arm = k.arm_mentions;
  expr = λ e. e.node;
  field = k.field_mentions;
  loop = k.for_mentions;
  number = λ n. mentions_if n.ty;
  pattern = λ p. p.shape;
  type_expr = λ t. t.node;
}

abbrev pub each_mentions : Maps trees mentions
each_mentions = folds mentions mention_steps

-- ---- expressions

abbrev pub node_mentioned : NodeLayer → Mentions
node_mentioned x = k.node_mentions (map_node trees mentions each_mentions x)

pub expr_opened : (e : Expr) → mentioned e ≡ node_mentioned (node_of e)
expr_opened e =
    fold_out-Expr NamesBound Mentions NamesBound Mentions Mentions NamesBound Mentions Mentions Mentions Mentions Mentions Mentions NamesBound Mentions
    k.stmt_mentions k.node_mentions k.shape_mentions k.type_mentions k.block_mentions k.let_mentions (λ a. a.value) k.arm_mentions (λ e. e.node) k.field_mentions k.for_mentions (λ n. mentions_if n.ty) (λ p. p.shape) (λ t. t.node) e
    ∙ fold_out-Node NamesBound Mentions NamesBound Mentions Mentions NamesBound Mentions Mentions Mentions Mentions Mentions Mentions NamesBound Mentions
    k.stmt_mentions k.node_mentions k.shape_mentions k.type_mentions k.block_mentions k.let_mentions (λ a. a.value) k.arm_mentions (λ e. e.node) k.field_mentions k.for_mentions (λ n. mentions_if n.ty) (λ p. p.shape) (λ t. t.node) (out-Expr e).node

-- what may stand there
abbrev pub expr_mentions_if : Option Expr → Mentions
expr_mentions_if o = mentions_if (option_map mentioned o)

abbrev pub type_mentions_if : Option TypeExpr → Mentions
type_mentions_if o = mentions_if (option_map mentioned_in_type o)

abbrev pub number_mentions : Number → Mentions
number_mentions = fold_number mentions mention_steps

number_layer : (x : NumberLevel trees) → mention_steps.number (map_number trees mentions each_mentions x) ≡ type_mentions_if x.ty
number_layer x = by x.ty
  where
    by : (o : Option TypeExpr) → mention_steps.number (map_number trees mentions each_mentions (record { ty = o; is_negative = x.is_negative; value = x.value })) ≡ type_mentions_if o
    by None = refl
    by (Some t) = refl

pub number_opened : (n : Number) → number_mentions n ≡ type_mentions_if (out-Number n).ty
number_opened n =
    fold_out-Number NamesBound Mentions NamesBound Mentions Mentions NamesBound Mentions Mentions Mentions Mentions Mentions Mentions NamesBound Mentions
    k.stmt_mentions k.node_mentions k.shape_mentions k.type_mentions k.block_mentions k.let_mentions (λ a. a.value) k.arm_mentions (λ e. e.node) k.field_mentions k.for_mentions (λ n. mentions_if n.ty) (λ p. p.shape) (λ t. t.node) n
    ∙ number_layer (out-Number n)

pub arg_opened : (a : Arg) → mentioned_in_arg a ≡ mentioned (out-Arg a).value
arg_opened a =
    fold_out-Arg NamesBound Mentions NamesBound Mentions Mentions NamesBound Mentions Mentions Mentions Mentions Mentions Mentions NamesBound Mentions
    k.stmt_mentions k.node_mentions k.shape_mentions k.type_mentions k.block_mentions k.let_mentions (λ a. a.value) k.arm_mentions (λ e. e.node) k.field_mentions k.for_mentions (λ n. mentions_if n.ty) (λ p. p.shape) (λ t. t.node) a

-- a field given by its name alone mentions that
abbrev pub field_mentioned : List ℕ → Option Expr → Mentions
field_mentioned name None = value_mention name
field_mentioned name (Some e) = mentioned e

field_layer : (x : FieldValueLevel trees) → k.field_mentions (map_field trees mentions each_mentions x) ≡ field_mentioned x.name.name x.value
field_layer x = by x.value
  where
    by : (o : Option Expr) → k.field_mentions (map_field trees mentions each_mentions (record { name = x.name; value = o })) ≡ field_mentioned x.name.name o
    by None = refl
    by (Some e) = refl

pub field_opened : (f : FieldValue) → in_field f ≡ field_mentioned (out-FieldValue f).name.name (out-FieldValue f).value
field_opened f =
    fold_out-FieldValue NamesBound Mentions NamesBound Mentions Mentions NamesBound Mentions Mentions Mentions Mentions Mentions Mentions NamesBound Mentions
    k.stmt_mentions k.node_mentions k.shape_mentions k.type_mentions k.block_mentions k.let_mentions (λ a. a.value) k.arm_mentions (λ e. e.node) k.field_mentions k.for_mentions (λ n. mentions_if n.ty) (λ p. p.shape) (λ t. t.node) f
    ∙ field_layer (out-FieldValue f)

-- ---- types and patterns

abbrev pub type_mentioned : TypeLayer → Mentions
type_mentioned x = k.type_mentions (map_type_node trees mentions each_mentions x)

pub type_opened : (t : TypeExpr) → mentioned_in_type t ≡ type_mentioned (type_of t)
type_opened t =
    fold_out-TypeExpr NamesBound Mentions NamesBound Mentions Mentions NamesBound Mentions Mentions Mentions Mentions Mentions Mentions NamesBound Mentions
    k.stmt_mentions k.node_mentions k.shape_mentions k.type_mentions k.block_mentions k.let_mentions (λ a. a.value) k.arm_mentions (λ e. e.node) k.field_mentions k.for_mentions (λ n. mentions_if n.ty) (λ p. p.shape) (λ t. t.node) t
    ∙ fold_out-TypeNode NamesBound Mentions NamesBound Mentions Mentions NamesBound Mentions Mentions Mentions Mentions Mentions Mentions NamesBound Mentions
    k.stmt_mentions k.node_mentions k.shape_mentions k.type_mentions k.block_mentions k.let_mentions (λ a. a.value) k.arm_mentions (λ e. e.node) k.field_mentions k.for_mentions (λ n. mentions_if n.ty) (λ p. p.shape) (λ t. t.node) (out-TypeExpr t).node

abbrev pub in_shape : PatternLayer → NamesBound
in_shape x = k.shape_mentions (map_shape trees mentions each_mentions x)

pub pattern_opened : (p : Pattern) → in_pattern p ≡ in_shape (shape_of p)
pattern_opened p =
    fold_out-Pattern NamesBound Mentions NamesBound Mentions Mentions NamesBound Mentions Mentions Mentions Mentions Mentions Mentions NamesBound Mentions
    k.stmt_mentions k.node_mentions k.shape_mentions k.type_mentions k.block_mentions k.let_mentions (λ a. a.value) k.arm_mentions (λ e. e.node) k.field_mentions k.for_mentions (λ n. mentions_if n.ty) (λ p. p.shape) (λ t. t.node) p
    ∙ fold_out-Shape NamesBound Mentions NamesBound Mentions Mentions NamesBound Mentions Mentions Mentions Mentions Mentions Mentions NamesBound Mentions
    k.stmt_mentions k.node_mentions k.shape_mentions k.type_mentions k.block_mentions k.let_mentions (λ a. a.value) k.arm_mentions (λ e. e.node) k.field_mentions k.for_mentions (λ n. mentions_if n.ty) (λ p. p.shape) (λ t. t.node) (out-Pattern p).shape

-- ---- statements, blocks, arms and loops

abbrev pub in_stmt_layer : StmtLayer → NamesBound
in_stmt_layer x = k.stmt_mentions (map_stmt trees mentions each_mentions x)

pub stmt_opened : (s : Stmt) → in_stmt s ≡ in_stmt_layer (out-Stmt s)
stmt_opened s =
    fold_out-Stmt NamesBound Mentions NamesBound Mentions Mentions NamesBound Mentions Mentions Mentions Mentions Mentions Mentions NamesBound Mentions
    k.stmt_mentions k.node_mentions k.shape_mentions k.type_mentions k.block_mentions k.let_mentions (λ a. a.value) k.arm_mentions (λ e. e.node) k.field_mentions k.for_mentions (λ n. mentions_if n.ty) (λ p. p.shape) (λ t. t.node) s

abbrev pub in_bind : Let → NamesBound
in_bind = fold_bind mentions mention_steps

abbrev pub in_bind_by : LetLevel trees → NamesBound
in_bind_by l = record { mentions = λ bound. type_mentions_if l.ty bound ++ mentioned l.value bound ++ (in_pattern l.pattern).mentions bound; names = (in_pattern l.pattern).names }

bind_layer : (x : LetLevel trees) → k.let_mentions (map_bind trees mentions each_mentions x) ≡ in_bind_by x
bind_layer x = by x.ty
  where
    by : (o : Option TypeExpr) → k.let_mentions (map_bind trees mentions each_mentions (record { span = x.span; pattern = x.pattern; ty = o; value = x.value }))
        ≡ in_bind_by (record { span = x.span; pattern = x.pattern; ty = o; value = x.value })
    by None = refl
    by (Some t) = refl

pub bind_opened : (l : Let) → in_bind l ≡ in_bind_by (out-Let l)
bind_opened l =
    fold_out-Let NamesBound Mentions NamesBound Mentions Mentions NamesBound Mentions Mentions Mentions Mentions Mentions Mentions NamesBound Mentions
    k.stmt_mentions k.node_mentions k.shape_mentions k.type_mentions k.block_mentions k.let_mentions (λ a. a.value) k.arm_mentions (λ e. e.node) k.field_mentions k.for_mentions (λ n. mentions_if n.ty) (λ p. p.shape) (λ t. t.node) l
    ∙ bind_layer (out-Let l)

block_layer : (x : BlockLevel trees) → k.block_mentions (map_block trees mentions each_mentions x) ≡ in_statements x.statements x.value
block_layer x = by x.value
  where
    by : (o : Option Expr) → k.block_mentions (map_block trees mentions each_mentions (record { span = x.span; statements = x.statements; value = o })) ≡ in_statements x.statements o
    by None = refl
    by (Some e) = refl

pub block_opened : (b : Block) → mentioned_in_block b ≡ in_statements (out-Block b).statements (out-Block b).value
block_opened b =
    fold_out-Block NamesBound Mentions NamesBound Mentions Mentions NamesBound Mentions Mentions Mentions Mentions Mentions Mentions NamesBound Mentions
    k.stmt_mentions k.node_mentions k.shape_mentions k.type_mentions k.block_mentions k.let_mentions (λ a. a.value) k.arm_mentions (λ e. e.node) k.field_mentions k.for_mentions (λ n. mentions_if n.ty) (λ p. p.shape) (λ t. t.node) b
    ∙ block_layer (out-Block b)

abbrev pub in_arm_by : List Pattern → Expr → Mentions
in_arm_by ps e bound = binders_mentions (map in_pattern ps) bound ++ mentioned e (bound_behind (map in_pattern ps) ++ bound)

pub arm_opened : (a : Arm) → in_arm a ≡ in_arm_by (out-Arm a).patterns (out-Arm a).value
arm_opened a =
    fold_out-Arm NamesBound Mentions NamesBound Mentions Mentions NamesBound Mentions Mentions Mentions Mentions Mentions Mentions NamesBound Mentions
    k.stmt_mentions k.node_mentions k.shape_mentions k.type_mentions k.block_mentions k.let_mentions (λ a. a.value) k.arm_mentions (λ e. e.node) k.field_mentions k.for_mentions (λ n. mentions_if n.ty) (λ p. p.shape) (λ t. t.node) a

abbrev pub in_loop : For → Mentions
in_loop = fold_loop mentions mention_steps

abbrev pub in_loop_by : ForLevel trees → Mentions
in_loop_by f bound =
    mentioned f.from bound ++ mentioned f.to bound ++ mentioned f.start bound ++ type_mentions_if f.ty bound ++ (in_pattern f.index).mentions bound ++ (in_pattern f.accumulator).mentions bound
    ++ mentioned_in_block f.body ((in_pattern f.accumulator).names ++ (in_pattern f.index).names ++ bound)

loop_layer : (x : ForLevel trees) → k.for_mentions (map_loop trees mentions each_mentions x) ≡ in_loop_by x
loop_layer x = by x.ty
  where
    by : (o : Option TypeExpr) → k.for_mentions (map_loop trees mentions each_mentions (record { index = x.index; accumulator = x.accumulator; ty = o; from = x.from; to = x.to; body = x.body; start = x.start }))
        ≡ in_loop_by (record { index = x.index; accumulator = x.accumulator; ty = o; from = x.from; to = x.to; body = x.body; start = x.start })
    by None = refl
    by (Some t) = refl

pub loop_opened : (f : For) → in_loop f ≡ in_loop_by (out-For f)
loop_opened f =
    fold_out-For NamesBound Mentions NamesBound Mentions Mentions NamesBound Mentions Mentions Mentions Mentions Mentions Mentions NamesBound Mentions
    k.stmt_mentions k.node_mentions k.shape_mentions k.type_mentions k.block_mentions k.let_mentions (λ a. a.value) k.arm_mentions (λ e. e.node) k.field_mentions k.for_mentions (λ n. mentions_if n.ty) (λ p. p.shape) (λ t. t.node) f
    ∙ loop_layer (out-For f)
