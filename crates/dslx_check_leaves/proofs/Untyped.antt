-- Numbers without types, by the nodes of expressions.
use Rattle.std.proofs.Common.{◌≡◌, ◌∙◌, Option, Some, None, refl, sym, ap}
use Rattle.dslx_tree.specs.declared.block.Stmt.TheOpen.{Node-F}
use Rattle.dslx_tree.specs.declared.block.Stmt.TheFolds.{fold_out-Node, fold_out-Expr, fold_out-Number}
use Rattle.dslx_tree.specs.declared.expr.Expr.{Expr, out-Expr}
use Rattle.dslx_tree.specs.declared.expr.Number.{Number, out-Number}
use Rattle.dslx_tree.specs.declared.type_expr.TypeExpr.{TypeExpr}
use Rattle.dslx_tree.proofs.Lemmas.Folds.Levels.{Carriers, Maps, NumberLevel, trees, map_node, map_number}
use Rattle.dslx_tree.proofs.Lemmas.Folds.Folds.{Steps, folds, fold_number}
use Rattle.dslx_meaning.specs.Activation.{NodeLayer, node_of}
use Rattle.dslx_meaning.specs.Meaning as m
use Rattle.dslx_meaning.specs.Meaning.{ArmDen, ExprDen, FieldDen, PatternDen, StmtDen, TypeDen, ValueDen, denotation}
use Rattle.dslx_meaning.specs.Names.ConstMachine.Layers.{bare_node, untyped_of, without_type, written}

abbrev meanings : Carriers
meanings = record {
  stmt = StmtDen;
  node = ExprDen;
  shape = PatternDen;
  type_node = TypeDen;
  block = ValueDen;
  bind = StmtDen;
  arg = ExprDen;
  arm = ArmDen;
  expr = ExprDen;
  field = FieldDen;
  loop = ValueDen;
  number = ExprDen;
  pattern = PatternDen;
  type_expr = TypeDen;
}

abbrev meaning_steps : Steps meanings
meaning_steps = record {
  stmt = m.stmt_den;
  node = m.node_den;
  shape = m.shape_den;
  type_node = m.type_den;
  block = m.block_den;
  bind = m.let_den;
  arg = m.arg_den;
  arm = m.arm_den;
  expr = m.expr_den;
  field = m.field_den;
  loop = m.for_den;
  number = m.number_node;
  pattern = m.pattern_den;
  type_expr = m.type_expr_den;
}

abbrev each_means : Maps trees meanings
each_means = folds meanings meaning_steps

abbrev node_means : NodeLayer → ExprDen
node_means x = m.node_den (map_node trees meanings each_means x)

opened : (e : Expr) → denotation e ≡ node_means (node_of e)
opened e =
    fold_out-Expr StmtDen ExprDen PatternDen TypeDen ValueDen StmtDen ExprDen ArmDen ExprDen FieldDen ValueDen ExprDen PatternDen TypeDen
    m.stmt_den m.node_den m.shape_den m.type_den m.block_den m.let_den m.arg_den m.arm_den m.expr_den m.field_den m.for_den m.number_node m.pattern_den m.type_expr_den e
    ∙ fold_out-Node StmtDen ExprDen PatternDen TypeDen ValueDen StmtDen ExprDen ArmDen ExprDen FieldDen ValueDen ExprDen PatternDen TypeDen
    m.stmt_den m.node_den m.shape_den m.type_den m.block_den m.let_den m.arg_den m.arm_den m.expr_den m.field_den m.for_den m.number_node m.pattern_den m.type_expr_den (out-Expr e).node

number_layer : (x : NumberLevel trees) → (m.number_node (map_number trees meanings each_means x)).bare ≡ without_type x.ty (record { is_negative = x.is_negative; value = x.value })
number_layer x = by x.ty
  where
    by : (o : Option TypeExpr) → (m.number_node (map_number trees meanings each_means (record { ty = o; is_negative = x.is_negative; value = x.value }))).bare
        ≡ without_type o (record { is_negative = x.is_negative; value = x.value })
    by None = refl
    by (Some t) = refl

number_opened : (n : Number) → (fold_number meanings meaning_steps n).bare ≡ without_type (out-Number n).ty (written n)
number_opened n = ap (λ (d : ExprDen). d.bare) (
    fold_out-Number StmtDen ExprDen PatternDen TypeDen ValueDen StmtDen ExprDen ArmDen ExprDen FieldDen ValueDen ExprDen PatternDen TypeDen
    m.stmt_den m.node_den m.shape_den m.type_den m.block_den m.let_den m.arg_den m.arm_den m.expr_den m.field_den m.for_den m.number_node m.pattern_den m.type_expr_den n)
    ∙ number_layer (out-Number n)

bare_layer : (x : NodeLayer) → (node_means x).bare ≡ bare_node x
bare_layer (Node-F.Node::Number n) = number_opened n
bare_layer (Node-F.Node::Bool b) = refl
bare_layer (Node-F.Node::Array t es dots) = refl
bare_layer (Node-F.Node::Name name) = refl
bare_layer (Node-F.Node::Member e a) = refl
bare_layer (Node-F.Call f parametric_args es) = refl
bare_layer (Node-F.Node::Tuple es) = refl
bare_layer (Node-F.Struct x fields rest) = refl
bare_layer (Node-F.Block b) = refl
bare_layer (Node-F.If c a b) = refl
bare_layer (Node-F.Match e arms) = refl
bare_layer (Node-F.For f) = refl
bare_layer (Node-F.Index e j) = refl
bare_layer (Node-F.Slice e a b) = refl
bare_layer (Node-F.Part e j t) = refl
bare_layer (Node-F.Field e name) = refl
bare_layer (Node-F.Element e span n) = refl
bare_layer (Node-F.Prefix o e) = refl
bare_layer (Node-F.Cast e t) = refl
bare_layer (Node-F.Binary o l r) = refl

pub untyped_by_node : (e : Expr) → untyped_of e ≡ (denotation e).bare
untyped_by_node e = sym (ap (λ (d : ExprDen). d.bare) (opened e) ∙ bare_layer (node_of e))
