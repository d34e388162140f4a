-- The induction on written types: each becomes what it means among the parametrics, unless a size in it sees a local.
use Rattle.std.proofs.Common.{◌≡◌, Bool, List, [], ◌∷◌, Option, Some, map, refl, sym, ap, subst, ◌∙◌}
use Rattle.dslx_tree.specs.declared.block.Stmt.TheFolds.{ind-TypeExpr}
use Rattle.dslx_tree.specs.declared.block.Stmt.TheOpen.{TypeNode-F}
use Rattle.dslx_tree.specs.declared.block.Stmt.{Stmt}
use Rattle.dslx_tree.specs.declared.expr.Node.{Node}
use Rattle.dslx_tree.specs.declared.pattern.Shape.{Shape}
use Rattle.dslx_tree.specs.declared.type_expr.TypeNode.{TypeNode, roll-TypeNode}
use Rattle.dslx_tree.specs.declared.block.Block.{Block}
use Rattle.dslx_tree.specs.declared.block.Let.{Let}
use Rattle.dslx_tree.specs.declared.expr.Arg.{Arg}
use Rattle.dslx_tree.specs.declared.expr.Arm.{Arm}
use Rattle.dslx_tree.specs.declared.expr.Expr.{Expr}
use Rattle.dslx_tree.specs.declared.expr.FieldValue.{FieldValue}
use Rattle.dslx_tree.specs.declared.expr.For.{For}
use Rattle.dslx_tree.specs.declared.expr.Number.{Number}
use Rattle.dslx_tree.specs.declared.pattern.Pattern.{Pattern}
use Rattle.dslx_tree.specs.declared.type_expr.TypeExpr.{TypeExpr, roll-TypeExpr}
use Rattle.dslx_tree.proofs.Lemmas.Folds.Levels.{Carriers, Maps, TypeExprLevel, TypeNodeLevel, map_type_expr, map_type_node, trees}
use Rattle.dslx_tree.proofs.Lemmas.Folds.Folds.{Steps, fold_expr, fold_type_expr, fold_type_expr-roll, fold_type_node, fold_type_node-roll, folds}
use Rattle.dslx_meaning.specs.Lists.{all_some, and_then, with_both}
use Rattle.dslx_meaning.specs.Meaning as m
use Rattle.dslx_meaning.specs.Meaning.{ArmDen, ValueDen, FieldDen, StmtDen, ExprDen, PatternDen, TypeDen, denotation, size_of, written_type}
use Rattle.dslx_meaning.specs.declared.ty.DslxType.{DslxType}
use Rattle.dslx_meaning.specs.declared.ty.DslxType as ty
use Rattle.dslx_meaning.specs.Rules.Mentions as k
use Rattle.dslx_meaning.specs.Rules.Mentions.{Mentions, NamesBound, all_mentions, mentioned, mentioned_in_type, mentions_if}
use Rattle.dslx_core.specs.Lowering.CoreScopes.{CoreScope, globals_env, sees_a_local, size_at, unless_local}
use Rattle.dslx_core.specs.Lowering.Trees.{TypeLowering, lower_type, lower_type_of_text}
use Rattle.dslx_core.proofs.Lemmas.Machines.Machine.Rebuilt.{become, becoming, each_lowers_to, rebuilt_expr}
use Rattle.dslx_scope.specs.WrittenTypes.Seen.{type_sees_a_local}
use Rattle.dslx_scope.proofs.OnWrittenTypes.Unless.{all_unless, both_unless, sees, sees_both, then_unless}

-- ---- what trees mean, and what they mention

abbrev meanings : Carriers
meanings = record {
  stmt = StmtDen;
  node = ExprDen;
  shape = PatternDen;
  type_node = TypeDen;
  block = ValueDen;
  bind = StmtDen;
  arg = ExprDen;
  arm = ArmDen;
  expr = ExprDen;
  field = FieldDen;
  loop = ValueDen;
  number = ExprDen;
  pattern = PatternDen;
  type_expr = TypeDen;
}

abbrev meaning_steps : Steps meanings
meaning_steps = record {
  stmt = m.stmt_den;
  node = m.node_den;
  shape = m.shape_den;
  type_node = m.type_den;
  block = m.block_den;
  bind = m.let_den;
  arg = m.arg_den;
  arm = m.arm_den;
  expr = m.expr_den;
  field = m.field_den;
  loop = m.for_den;
  number = m.number_node;
  pattern = m.pattern_den;
  type_expr = m.type_expr_den;
}

abbrev mentions : Carriers
mentions = record {
  stmt = NamesBound;
  node = Mentions;
  shape = NamesBound;
  type_node = Mentions;
  block = Mentions;
  bind = NamesBound;
  arg = Mentions;
  arm = Mentions;
  expr = Mentions;
  field = Mentions;
  loop = Mentions;
  number = Mentions;
  pattern = NamesBound;
  type_expr = Mentions;
}

abbrev mention_steps : Steps mentions
mention_steps = record {
  stmt = k.stmt_mentions;
  node = k.node_mentions;
  shape = k.shape_mentions;
  type_node = k.type_mentions;
  block = k.block_mentions;
  bind = k.let_mentions;
  arg = λ a. a.value;
  arm = k.arm_mentions;
  expr = λ e. e.node;
  field = k.field_mentions;
  loop = k.for_mentions;
  number = λ n. mentions_if n.ty;
  pattern = λ p. p.shape;
  type_expr = λ t. t.node;
}

-- ---- the types of which it holds

abbrev IsLowered : TypeExpr → Type 0
IsLowered t = (scope : CoreScope) → lower_type_of_text t scope ≡ unless_local (type_sees_a_local scope t) (written_type t (globals_env scope.known))

abbrev NodeIsLowered : TypeNode → Type 0
NodeIsLowered n = (scope : CoreScope) → (fold_type_node become becoming n).1 scope
    ≡ unless_local (sees scope (fold_type_node mentions mention_steps n [])) (fold_type_node meanings meaning_steps n (globals_env scope.known))

-- of other parts nothing has to be known
abbrev holding : Carriers
holding = record {
  stmt = (x : Stmt) × Unit {0};
  node = (x : Node) × Unit {0};
  shape = (x : Shape) × Unit {0};
  type_node = (x : TypeNode) × NodeIsLowered x;
  block = (x : Block) × Unit {0};
  bind = (x : Let) × Unit {0};
  arg = (x : Arg) × Unit {0};
  arm = (x : Arm) × Unit {0};
  expr = (x : Expr) × Unit {0};
  field = (x : FieldValue) × Unit {0};
  loop = (x : For) × Unit {0};
  number = (x : Number) × Unit {0};
  pattern = (x : Pattern) × Unit {0};
  type_expr = (x : TypeExpr) × IsLowered x;
}

abbrev tree_of : Maps holding trees
tree_of = record {
  stmt = λ p. p.0;
  node = λ p. p.0;
  shape = λ p. p.0;
  type_node = λ p. p.0;
  block = λ p. p.0;
  bind = λ p. p.0;
  arg = λ p. p.0;
  arm = λ p. p.0;
  expr = λ p. p.0;
  field = λ p. p.0;
  loop = λ p. p.0;
  number = λ p. p.0;
  pattern = λ p. p.0;
  type_expr = λ p. p.0;
}

abbrev ToBeLowered : Type 0
ToBeLowered = (x : TypeExpr) × IsLowered x

-- ---- one level

-- a size, which is beside itself
size_is : (scope : CoreScope) (e : Expr) → size_at scope (fold_expr become becoming e).0 ≡ unless_local (sees_a_local scope e) (size_of (denotation e) (globals_env scope.known))
size_is scope e = ap (size_at scope) (rebuilt_expr e)

abbrev types_of : List ToBeLowered → List TypeExpr
types_of ts = map (λ (t : ToBeLowered). t.0) ts

each_is_lowered : (scope : CoreScope) (ts : List ToBeLowered) → all_some (map (λ (t : TypeExpr × TypeLowering). t.1 scope) (map (fold_type_expr become becoming) (types_of ts)))
    ≡ unless_local (sees scope (all_mentions (map mentioned_in_type (types_of ts)) [])) (all_some (map (λ (t : TypeDen). t (globals_env scope.known)) (map written_type (types_of ts))))
each_is_lowered scope [] = refl
each_is_lowered scope (t ∷ ts) =
    ap (λ (o : Option DslxType). all_some (o ∷ map (λ (t : TypeExpr × TypeLowering). t.1 scope) (map (fold_type_expr become becoming) (types_of ts)))) (t.1 scope)
    ∙ all_unless (type_sees_a_local scope t.0) (sees scope (all_mentions (map mentioned_in_type (types_of ts)) [])) (written_type t.0 (globals_env scope.known))
    (map (λ (t : TypeExpr × TypeLowering). t.1 scope) (map (fold_type_expr become becoming) (types_of ts))) (map (λ (t : TypeDen). t (globals_env scope.known)) (map written_type (types_of ts)))
    (each_is_lowered scope ts)
    ∙ ap (λ (b : Bool). unless_local b (all_some (map (λ (t : TypeDen). t (globals_env scope.known)) (map written_type (types_of (t ∷ ts))))))
    (sym (sees_both scope (mentioned_in_type t.0 []) (all_mentions (map mentioned_in_type (types_of ts)) [])))

abbrev node_tree : TypeNodeLevel holding → TypeNodeLevel trees
node_tree y = map_type_node holding trees tree_of y

level_is_lowered : (y : TypeNodeLevel holding) (scope : CoreScope) → lower_type (map_type_node trees become each_lowers_to (node_tree y)) scope
    ≡ unless_local (sees scope (k.type_mentions (map_type_node trees mentions (folds mentions mention_steps) (node_tree y)) []))
    (m.type_den (map_type_node trees meanings (folds meanings meaning_steps) (node_tree y)) (globals_env scope.known))
level_is_lowered (TypeNode-F.Bits s w) scope = refl
level_is_lowered (TypeNode-F.Wide s e) scope =
    ap (λ o. and_then o (λ w. Some (ty.Bits s w))) (size_is scope e.0)
    ∙ then_unless (sees_a_local scope e.0) (size_of (denotation e.0) (globals_env scope.known)) (λ w. Some (ty.Bits s w))
level_is_lowered TypeNode-F.TypeNode::Bool scope = refl
level_is_lowered (TypeNode-F.TypeNode::Name name) scope = refl
level_is_lowered (TypeNode-F.TypeNode::Tuple ts) scope =
    ap (λ o. and_then o (λ us. Some (ty.Tuple us))) (each_is_lowered scope ts)
    ∙ then_unless (sees scope (all_mentions (map mentioned_in_type (types_of ts)) [])) (all_some (map (λ (t : TypeDen). t (globals_env scope.known)) (map written_type (types_of ts)))) (λ us. Some (ty.Tuple us))
level_is_lowered (TypeNode-F.TypeNode::Array t e) scope =
    ap (λ o. with_both o (size_at scope (fold_expr become becoming e.0).0) (λ u n. Some (ty.Array u n))) (t.1 scope)
    ∙ ap (λ o. with_both (unless_local (type_sees_a_local scope t.0) (written_type t.0 (globals_env scope.known))) o (λ u n. Some (ty.Array u n))) (size_is scope e.0)
    ∙ both_unless (type_sees_a_local scope t.0) (sees_a_local scope e.0) (written_type t.0 (globals_env scope.known)) (size_of (denotation e.0) (globals_env scope.known)) (λ u n. Some (ty.Array u n))
    ∙ ap (λ (b : Bool). unless_local b (with_both (written_type t.0 (globals_env scope.known)) (size_of (denotation e.0) (globals_env scope.known)) (λ u n. Some (ty.Array u n))))
    (sym (sees_both scope (mentioned_in_type t.0 []) (mentioned e.0 [])))

step_type_node : (x : TypeNodeLevel trees) (y : TypeNodeLevel holding) → node_tree y ≡ x → NodeIsLowered (roll-TypeNode x)
step_type_node x y is = subst (λ z. NodeIsLowered (roll-TypeNode z)) is (λ scope.
    ap (λ p. p.1 scope) (fold_type_node-roll become becoming (node_tree y))
    ∙ level_is_lowered y scope
    ∙ (λ i. unless_local (sees scope (sym (fold_type_node-roll mentions mention_steps (node_tree y)) i [])) (sym (fold_type_node-roll meanings meaning_steps (node_tree y)) i (globals_env scope.known))))

abbrev type_tree : TypeExprLevel holding → TypeExprLevel trees
type_tree y = map_type_expr holding trees tree_of y

step_type_expr : (x : TypeExprLevel trees) (y : TypeExprLevel holding) → type_tree y ≡ x → IsLowered (roll-TypeExpr x)
step_type_expr x y is = subst (λ z. IsLowered (roll-TypeExpr z)) is (λ scope.
    ap (λ p. p.1 scope) (fold_type_expr-roll become becoming (type_tree y))
    ∙ y.node.1 scope
    ∙ (λ i. unless_local (sees scope (sym (fold_type_expr-roll mentions mention_steps (type_tree y)) i [])) (sym (fold_type_expr-roll meanings meaning_steps (type_tree y)) i (globals_env scope.known))))

pub type_is_lowered : (t : TypeExpr) → IsLowered t
type_is_lowered = ind-TypeExpr (λ x. Unit {0}) (λ x. Unit {0}) (λ x. Unit {0}) NodeIsLowered (λ x. Unit {0}) (λ x. Unit {0}) (λ x. Unit {0}) (λ x. Unit {0}) (λ x. Unit {0}) (λ x. Unit {0}) (λ x. Unit {0}) (λ x. Unit {0}) (λ x. Unit {0}) IsLowered
    (λ x y is. tt) (λ x y is. tt) (λ x y is. tt) step_type_node (λ x y is. tt) (λ x y is. tt) (λ x y is. tt) (λ x y is. tt) (λ x y is. tt) (λ x y is. tt) (λ x y is. tt) (λ x y is. tt) (λ x y is. tt) step_type_expr
