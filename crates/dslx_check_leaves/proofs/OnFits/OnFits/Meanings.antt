-- What patterns and numbers mean, by what stands at their tops.
use Rattle.std.proofs.Common.{◌≡◌, ◌∙◌, Option, Some, None, refl, ap}
use Rattle.std.specs.Option.{option_map}
use Rattle.dslx_tree.specs.declared.block.Stmt.TheFolds.{fold_out-Number, fold_out-Pattern}
use Rattle.dslx_tree.specs.declared.expr.Number.{Number, out-Number}
use Rattle.dslx_tree.specs.declared.pattern.Pattern.{Pattern, out-Pattern}
use Rattle.dslx_tree.specs.declared.pattern.Shape.{roll-Shape}
use Rattle.dslx_tree.specs.declared.type_expr.TypeExpr.{TypeExpr}
use Rattle.dslx_tree.proofs.Lemmas.Folds.Levels.{Carriers, Maps, NumberLevel, ShapeLevel, trees, map_number, map_shape}
use Rattle.dslx_tree.proofs.Lemmas.Folds.Folds.{Steps, folds, fold_number, fold_shape, fold_shape-roll}
use Rattle.dslx_meaning.specs.Meaning as m
use Rattle.dslx_meaning.specs.Meaning.{ArmDen, ExprDen, FieldDen, PatternDen, StmtDen, TypeDen, ValueDen, pattern_denotation, written_type}

abbrev pub meanings : Carriers
meanings = record {
  stmt = StmtDen;
  node = ExprDen;
  shape = PatternDen;
  type_node = TypeDen;
  block = ValueDen;
  bind = StmtDen;
  arg = ExprDen;
  arm = ArmDen;
  expr = ExprDen;
  field = FieldDen;
  loop = ValueDen;
  number = ExprDen;
  pattern = PatternDen;
  type_expr = TypeDen;
}

abbrev pub meaning_steps : Steps meanings
meaning_steps = record {
  stmt = m.stmt_den;
  node = m.node_den;
  shape = m.shape_den;
  type_node = m.type_den;
  block = m.block_den;
  bind = m.let_den;
  arg = m.arg_den;
  arm = m.arm_den;
  expr = m.expr_den;
  field = m.field_den;
  loop = m.for_den;
  number = m.number_node;
  pattern = m.pattern_den;
  type_expr = m.type_expr_den;
}

abbrev pub each_means : Maps trees meanings
each_means = folds meanings meaning_steps

-- ---- patterns

abbrev pub shape_means : ShapeLevel trees → PatternDen
shape_means x = m.shape_den (map_shape trees meanings each_means x)

-- what a pattern of this shape means
pub denotes : (p : Pattern) (x : ShapeLevel trees) → (out-Pattern p).shape ≡ roll-Shape x → pattern_denotation p ≡ shape_means x
denotes p x is =
    fold_out-Pattern StmtDen ExprDen PatternDen TypeDen ValueDen StmtDen ExprDen ArmDen ExprDen FieldDen ValueDen ExprDen PatternDen TypeDen
    m.stmt_den m.node_den m.shape_den m.type_den m.block_den m.let_den m.arg_den m.arm_den m.expr_den m.field_den m.for_den m.number_node m.pattern_den m.type_expr_den p
    ∙ ap (fold_shape meanings meaning_steps) is ∙ fold_shape-roll meanings meaning_steps x

-- ---- numbers

abbrev pub number_means : Number → ExprDen
number_means = fold_number meanings meaning_steps

abbrev pub number_by_parts : NumberLevel trees → ExprDen
number_by_parts x = m.number_den (option_map written_type x.ty) (record { is_negative = x.is_negative; value = x.value })

number_layer : (x : NumberLevel trees) → m.number_node (map_number trees meanings each_means x) ≡ number_by_parts x
number_layer x = by x.ty
  where
    by : (o : Option TypeExpr) → m.number_node (map_number trees meanings each_means (record { ty = o; is_negative = x.is_negative; value = x.value }))
        ≡ number_by_parts (record { ty = o; is_negative = x.is_negative; value = x.value })
    by None = refl
    by (Some t) = refl

pub number_opened : (n : Number) → number_means n ≡ number_by_parts (out-Number n)
number_opened n =
    fold_out-Number StmtDen ExprDen PatternDen TypeDen ValueDen StmtDen ExprDen ArmDen ExprDen FieldDen ValueDen ExprDen PatternDen TypeDen
    m.stmt_den m.node_den m.shape_den m.type_den m.block_den m.let_den m.arg_den m.arm_den m.expr_den m.field_den m.for_den m.number_node m.pattern_den m.type_expr_den n
    ∙ number_layer (out-Number n)
