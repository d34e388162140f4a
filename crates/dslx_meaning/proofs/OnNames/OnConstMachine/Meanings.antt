-- What the parts of a tree mean, by what stands at their top.
use Rattle.std.proofs.Common.{◌≡◌, List, map, Option, Some, None, refl, ◌∙◌}
use Rattle.std.specs.Option.{option_map}
use Rattle.dslx_tree.specs.declared.block.Block.{Block, out-Block}
use Rattle.dslx_tree.specs.declared.block.Let.{Let, out-Let}
use Rattle.dslx_tree.specs.declared.block.Stmt.{Stmt, out-Stmt}
use Rattle.dslx_tree.specs.declared.block.Stmt.TheFolds.{fold_out-Stmt, fold_out-Node, fold_out-Shape, fold_out-TypeNode, fold_out-Block, fold_out-Let, fold_out-Arg, fold_out-Arm, fold_out-Expr, fold_out-FieldValue, fold_out-For, fold_out-Number, fold_out-Pattern, fold_out-TypeExpr}
use Rattle.dslx_tree.specs.declared.expr.Arg.{Arg, out-Arg}
use Rattle.dslx_tree.specs.declared.expr.Arm.{Arm, out-Arm}
use Rattle.dslx_tree.specs.declared.expr.Expr.{Expr, out-Expr}
use Rattle.dslx_tree.specs.declared.expr.FieldValue.{FieldValue, out-FieldValue}
use Rattle.dslx_tree.specs.declared.expr.For.{For, out-For}
use Rattle.dslx_tree.specs.declared.expr.Number.{Number, out-Number}
use Rattle.dslx_tree.specs.declared.pattern.Pattern.{Pattern, out-Pattern}
use Rattle.dslx_tree.specs.declared.type_expr.TypeExpr.{TypeExpr, out-TypeExpr}
use Rattle.dslx_tree.proofs.Lemmas.Folds.Levels.{Carriers, Maps, BlockLevel, FieldValueLevel, NumberLevel, trees, map_stmt, map_node, map_shape, map_type_node, map_block, map_field, map_number}
use Rattle.dslx_tree.proofs.Lemmas.Folds.Folds.{Steps, folds, fold_stmt, fold_bind, fold_arm, fold_field, fold_loop, fold_number}
use Rattle.dslx_meaning.specs.Activation.{NodeLayer, StmtLayer, node_of}
use Rattle.dslx_meaning.specs.Environment.{Env}
use Rattle.dslx_meaning.specs.Lists.{and_then, with_both}
use Rattle.dslx_meaning.specs.Values.{bits_of}
use Rattle.dslx_meaning.specs.declared.value.DslxValue.{DslxValue}
use Rattle.dslx_meaning.specs.Meaning as m
use Rattle.dslx_meaning.specs.Meaning.{ValueDen, ExprDen, PatternDen, TypeDen, StmtDen, ArmDen, FieldDen, MatchDen, denotation, arg_denotation, pattern_denotation, value_of, value_of_block, written_type, fitted}
use Rattle.dslx_meaning.specs.Names.ConstMachine.Layers.{PatternLayer, TypeLayer, shape_of, type_of}

abbrev pub meanings : Carriers
meanings = record {
  stmt = StmtDen;
  node = ExprDen;
  shape = PatternDen;
  type_node = TypeDen;
  block = ValueDen;
  bind = StmtDen;
  arg = ExprDen;
  arm = ArmDen;
  expr = ExprDen;
  field = FieldDen;
  loop = ValueDen;
  number = ExprDen;
  pattern = PatternDen;
  type_expr = TypeDen;
}

abbrev pub meaning_steps : Steps meanings
meaning_steps = record {
  stmt = m.stmt_den;
  node = m.node_den;
  shape = m.shape_den;
  type_node = m.type_den;
  block = m.block_den;
  bind = m.let_den;
  arg = m.arg_den;
  arm = m.arm_den;
  expr = m.expr_den;
  field = m.field_den;
  loop = m.for_den;
  number = m.number_node;
  pattern = m.pattern_den;
  type_expr = m.type_expr_den;
}

abbrev pub each_means : Maps trees meanings
each_means = folds meanings meaning_steps

-- ---- what stands at the top

abbrev pub node_means : NodeLayer → ExprDen
node_means x = m.node_den (map_node trees meanings each_means x)

pub opened : (e : Expr) → denotation e ≡ node_means (node_of e)
opened e =
    fold_out-Expr StmtDen ExprDen PatternDen TypeDen ValueDen StmtDen ExprDen ArmDen ExprDen FieldDen ValueDen ExprDen PatternDen TypeDen
    m.stmt_den m.node_den m.shape_den m.type_den m.block_den m.let_den m.arg_den m.arm_den m.expr_den m.field_den m.for_den m.number_node m.pattern_den m.type_expr_den e
    ∙ fold_out-Node StmtDen ExprDen PatternDen TypeDen ValueDen StmtDen ExprDen ArmDen ExprDen FieldDen ValueDen ExprDen PatternDen TypeDen
    m.stmt_den m.node_den m.shape_den m.type_den m.block_den m.let_den m.arg_den m.arm_den m.expr_den m.field_den m.for_den m.number_node m.pattern_den m.type_expr_den (out-Expr e).node

abbrev pub type_means : TypeLayer → TypeDen
type_means x = m.type_den (map_type_node trees meanings each_means x)

pub type_opened : (t : TypeExpr) → written_type t ≡ type_means (type_of t)
type_opened t =
    fold_out-TypeExpr StmtDen ExprDen PatternDen TypeDen ValueDen StmtDen ExprDen ArmDen ExprDen FieldDen ValueDen ExprDen PatternDen TypeDen
    m.stmt_den m.node_den m.shape_den m.type_den m.block_den m.let_den m.arg_den m.arm_den m.expr_den m.field_den m.for_den m.number_node m.pattern_den m.type_expr_den t
    ∙ fold_out-TypeNode StmtDen ExprDen PatternDen TypeDen ValueDen StmtDen ExprDen ArmDen ExprDen FieldDen ValueDen ExprDen PatternDen TypeDen
    m.stmt_den m.node_den m.shape_den m.type_den m.block_den m.let_den m.arg_den m.arm_den m.expr_den m.field_den m.for_den m.number_node m.pattern_den m.type_expr_den (out-TypeExpr t).node

abbrev pub shape_means : PatternLayer → PatternDen
shape_means x = m.shape_den (map_shape trees meanings each_means x)

pub pattern_opened : (p : Pattern) → pattern_denotation p ≡ shape_means (shape_of p)
pattern_opened p =
    fold_out-Pattern StmtDen ExprDen PatternDen TypeDen ValueDen StmtDen ExprDen ArmDen ExprDen FieldDen ValueDen ExprDen PatternDen TypeDen
    m.stmt_den m.node_den m.shape_den m.type_den m.block_den m.let_den m.arg_den m.arm_den m.expr_den m.field_den m.for_den m.number_node m.pattern_den m.type_expr_den p
    ∙ fold_out-Shape StmtDen ExprDen PatternDen TypeDen ValueDen StmtDen ExprDen ArmDen ExprDen FieldDen ValueDen ExprDen PatternDen TypeDen
    m.stmt_den m.node_den m.shape_den m.type_den m.block_den m.let_den m.arg_den m.arm_den m.expr_den m.field_den m.for_den m.number_node m.pattern_den m.type_expr_den (out-Pattern p).shape

abbrev pub stmt_means : Stmt → StmtDen
stmt_means = fold_stmt meanings meaning_steps

abbrev pub stmt_layer_means : StmtLayer → StmtDen
stmt_layer_means x = m.stmt_den (map_stmt trees meanings each_means x)

pub stmt_opened : (s : Stmt) → stmt_means s ≡ stmt_layer_means (out-Stmt s)
stmt_opened s =
    fold_out-Stmt StmtDen ExprDen PatternDen TypeDen ValueDen StmtDen ExprDen ArmDen ExprDen FieldDen ValueDen ExprDen PatternDen TypeDen
    m.stmt_den m.node_den m.shape_den m.type_den m.block_den m.let_den m.arg_den m.arm_den m.expr_den m.field_den m.for_den m.number_node m.pattern_den m.type_expr_den s

-- the last expression of a block
abbrev pub last_means : Option Expr → ValueDen
last_means last = m.last_den (option_map denotation last)

-- statements and a last expression
abbrev pub statements_mean : List Stmt → Option Expr → ValueDen
statements_mean ss last = m.statements_den (map stmt_means ss) (last_means last)

block_layer : (x : BlockLevel trees) → m.block_den (map_block trees meanings each_means x) ≡ statements_mean x.statements x.value
block_layer x = by x.value
  where
    by : (o : Option Expr) → m.block_den (map_block trees meanings each_means (record { span = x.span; statements = x.statements; value = o })) ≡ statements_mean x.statements o
    by None = refl
    by (Some e) = refl

pub block_opened : (b : Block) → value_of_block b ≡ statements_mean (out-Block b).statements (out-Block b).value
block_opened b =
    fold_out-Block StmtDen ExprDen PatternDen TypeDen ValueDen StmtDen ExprDen ArmDen ExprDen FieldDen ValueDen ExprDen PatternDen TypeDen
    m.stmt_den m.node_den m.shape_den m.type_den m.block_den m.let_den m.arg_den m.arm_den m.expr_den m.field_den m.for_den m.number_node m.pattern_den m.type_expr_den b
    ∙ block_layer (out-Block b)

abbrev pub bind_means : Let → StmtDen
bind_means = fold_bind meanings meaning_steps

abbrev pub bound_by : Let → StmtDen
bound_by l rest env = and_then (value_of (out-Let l).value env) (λ v. and_then (fitted (out-Let l).pattern v env) rest)

pub bind_opened : (l : Let) → bind_means l ≡ bound_by l
bind_opened l =
    fold_out-Let StmtDen ExprDen PatternDen TypeDen ValueDen StmtDen ExprDen ArmDen ExprDen FieldDen ValueDen ExprDen PatternDen TypeDen
    m.stmt_den m.node_den m.shape_den m.type_den m.block_den m.let_den m.arg_den m.arm_den m.expr_den m.field_den m.for_den m.number_node m.pattern_den m.type_expr_den l

pub arg_opened : (a : Arg) → arg_denotation a ≡ denotation (out-Arg a).value
arg_opened a =
    fold_out-Arg StmtDen ExprDen PatternDen TypeDen ValueDen StmtDen ExprDen ArmDen ExprDen FieldDen ValueDen ExprDen PatternDen TypeDen
    m.stmt_den m.node_den m.shape_den m.type_den m.block_den m.let_den m.arg_den m.arm_den m.expr_den m.field_den m.for_den m.number_node m.pattern_den m.type_expr_den a

abbrev pub arm_means : Arm → ArmDen
arm_means = fold_arm meanings meaning_steps

abbrev pub arm_by_parts : Arm → ArmDen
arm_by_parts a = record { patterns = map pattern_denotation (out-Arm a).patterns; value = value_of (out-Arm a).value }

pub arm_opened : (a : Arm) → arm_means a ≡ arm_by_parts a
arm_opened a =
    fold_out-Arm StmtDen ExprDen PatternDen TypeDen ValueDen StmtDen ExprDen ArmDen ExprDen FieldDen ValueDen ExprDen PatternDen TypeDen
    m.stmt_den m.node_den m.shape_den m.type_den m.block_den m.let_den m.arg_den m.arm_den m.expr_den m.field_den m.for_den m.number_node m.pattern_den m.type_expr_den a

abbrev pub field_means : FieldValue → FieldDen
field_means = fold_field meanings meaning_steps

abbrev pub field_by_parts : FieldValueLevel trees → FieldDen
field_by_parts x = record { name = x.name.name; value = m.field_value_of x.name.name (option_map denotation x.value) }

field_layer : (x : FieldValueLevel trees) → m.field_den (map_field trees meanings each_means x) ≡ field_by_parts x
field_layer x = by x.value
  where
    by : (o : Option Expr) → m.field_den (map_field trees meanings each_means (record { name = x.name; value = o })) ≡ field_by_parts (record { name = x.name; value = o })
    by None = refl
    by (Some e) = refl

pub field_opened : (f : FieldValue) → field_means f ≡ field_by_parts (out-FieldValue f)
field_opened f =
    fold_out-FieldValue StmtDen ExprDen PatternDen TypeDen ValueDen StmtDen ExprDen ArmDen ExprDen FieldDen ValueDen ExprDen PatternDen TypeDen
    m.stmt_den m.node_den m.shape_den m.type_den m.block_den m.let_den m.arg_den m.arm_den m.expr_den m.field_den m.for_den m.number_node m.pattern_den m.type_expr_den f
    ∙ field_layer (out-FieldValue f)

abbrev pub number_means : Number → ExprDen
number_means = fold_number meanings meaning_steps

abbrev pub number_by_parts : NumberLevel trees → ExprDen
number_by_parts x = m.number_den (option_map written_type x.ty) (record { is_negative = x.is_negative; value = x.value })

number_layer : (x : NumberLevel trees) → m.number_node (map_number trees meanings each_means x) ≡ number_by_parts x
number_layer x = by x.ty
  where
    by : (o : Option TypeExpr) → m.number_node (map_number trees meanings each_means (record { ty = o; is_negative = x.is_negative; value = x.value }))
        ≡ number_by_parts (record { ty = o; is_negative = x.is_negative; value = x.value })
    by None = refl
    by (Some t) = refl

pub number_opened : (n : Number) → number_means n ≡ number_by_parts (out-Number n)
number_opened n =
    fold_out-Number StmtDen ExprDen PatternDen TypeDen ValueDen StmtDen ExprDen ArmDen ExprDen FieldDen ValueDen ExprDen PatternDen TypeDen
    m.stmt_den m.node_den m.shape_den m.type_den m.block_den m.let_den m.arg_den m.arm_den m.expr_den m.field_den m.for_den m.number_node m.pattern_den m.type_expr_den n
    ∙ number_layer (out-Number n)

abbrev pub loop_means : For → ValueDen
loop_means = fold_loop meanings meaning_steps

-- one turn of a loop
abbrev pub turn_of : For → Env → DslxValue → DslxValue → Option DslxValue
turn_of f env i acc = and_then (fitted (out-For f).index i env) (λ inner. and_then (fitted (out-For f).accumulator acc inner) (value_of_block (out-For f).body))

-- a loop from its bounds and its start
abbrev pub loop_by_parts : For → ValueDen
loop_by_parts f env = and_then (value_of (out-For f).start env) (λ start.
    with_both (and_then (value_of (out-For f).from env) bits_of) (and_then (value_of (out-For f).to env) bits_of) (m.loop_over (turn_of f env) start))

pub loop_opened : (f : For) → loop_means f ≡ loop_by_parts f
loop_opened f =
    fold_out-For StmtDen ExprDen PatternDen TypeDen ValueDen StmtDen ExprDen ArmDen ExprDen FieldDen ValueDen ExprDen PatternDen TypeDen
    m.stmt_den m.node_den m.shape_den m.type_den m.block_den m.let_den m.arg_den m.arm_den m.expr_den m.field_den m.for_den m.number_node m.pattern_den m.type_expr_den f
