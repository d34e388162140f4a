-- What trees come to, by what stands at their tops.
use Rattle.std.proofs.Common.{◌≡◌, ◌∙◌, Bool, Option, Some, None, refl, sym, ap}
use Rattle.std.specs.Option.{option_map}
use Rattle.xb_span.specs.declared.span.Span.{Span}
use Rattle.dslx_tree.specs.declared.block.Stmt.TheOpen.{Shape-F}
use Rattle.dslx_tree.specs.declared.block.Stmt.TheFolds.{fold_out-Number, fold_out-Pattern}
use Rattle.dslx_tree.specs.declared.expr.Number.{Number, out-Number}
use Rattle.dslx_tree.specs.declared.pattern.Pattern.{Pattern, out-Pattern}
use Rattle.dslx_tree.specs.declared.pattern.Shape.{roll-Shape}
use Rattle.dslx_tree.specs.declared.type_expr.TypeExpr.{TypeExpr}
use Rattle.dslx_tree.proofs.Lemmas.Folds.Levels.{Carriers, Maps, ShapeLevel, trees, map_number, map_shape}
use Rattle.dslx_tree.proofs.Lemmas.Folds.Folds.{Steps, folds, fold_stmt, fold_node, fold_shape, fold_type_node, fold_block, fold_bind, fold_arg, fold_arm, fold_expr, fold_field, fold_loop, fold_number, fold_pattern, fold_type_expr, fold_shape-roll}
use Rattle.dslx_meaning.specs.Rules.AggregateRules.{number_typing}
use Rattle.dslx_meaning.specs.Rules.ControlRules.{written_typing}
use Rattle.dslx_meaning.specs.Rules.NodeRules.{number_node_typing, typing_steps}
use Rattle.dslx_meaning.specs.Rules.PatternRules.{is_there, one_value, shape_typing}
use Rattle.dslx_meaning.specs.Rules.TypeEnvs.{TypeEnv, Judgement}
use Rattle.dslx_meaning.specs.Rules.Typings.{typing_sorts}
use Rattle.dslx_core.proofs.Lemmas.Typing.Sound.{own_block, own_expr, own_pattern, own_type_expr, paired, pairing}
use Rattle.dslx_check_leaves.specs.Fits.Typed.{PatternFrom, number_at, number_pattern_at, pattern_typed, type_typed}

-- trees with what the rules say of them
abbrev pub pairs : Carriers
pairs = paired typing_sorts

abbrev pub steps : Steps pairs
steps = pairing typing_sorts typing_steps

-- each tree of which more is asked than its typing stands beside that itself
abbrev pub typed : Maps trees pairs
typed = record {
  stmt = fold_stmt pairs steps;
  node = fold_node pairs steps;
  shape = fold_shape pairs steps;
  type_node = fold_type_node pairs steps;
  block = λ x. (x, (fold_block pairs steps x).1);
  bind = fold_bind pairs steps;
  arg = fold_arg pairs steps;
  arm = fold_arm pairs steps;
  expr = λ x. (x, (fold_expr pairs steps x).1);
  field = fold_field pairs steps;
  loop = fold_loop pairs steps;
  number = fold_number pairs steps;
  pattern = λ x. (x, (fold_pattern pairs steps x).1);
  type_expr = λ x. (x, (fold_type_expr pairs steps x).1);
}

pub own : folds pairs steps ≡ typed
own = λ i. record {
  stmt = fold_stmt pairs steps;
  node = fold_node pairs steps;
  shape = fold_shape pairs steps;
  type_node = fold_type_node pairs steps;
  block = λ x. (own_block typing_sorts typing_steps x i, (fold_block pairs steps x).1);
  bind = fold_bind pairs steps;
  arg = fold_arg pairs steps;
  arm = fold_arm pairs steps;
  expr = λ x. (own_expr typing_sorts typing_steps x i, (fold_expr pairs steps x).1);
  field = fold_field pairs steps;
  loop = fold_loop pairs steps;
  number = fold_number pairs steps;
  pattern = λ x. (own_pattern typing_sorts typing_steps x i, (fold_pattern pairs steps x).1);
  type_expr = λ x. (own_type_expr typing_sorts typing_steps x i, (fold_type_expr pairs steps x).1);
}

-- ---- numbers

pub number_level : (n : Number) (span : Span) (env : TypeEnv) → (fold_number pairs steps n).1 span env ≡ number_at span n env
number_level n span env =
    ap (λ p. p.1 span env) (fold_out-Number pairs.stmt pairs.node pairs.shape pairs.type_node pairs.block pairs.bind pairs.arg pairs.arm pairs.expr pairs.field pairs.loop pairs.number pairs.pattern pairs.type_expr
    steps.stmt steps.node steps.shape steps.type_node steps.block steps.bind steps.arg steps.arm steps.expr steps.field steps.loop steps.number steps.pattern steps.type_expr n)
    ∙ ap (λ m. number_node_typing (map_number trees pairs m (out-Number n)) span env) own ∙ by (out-Number n).ty
  where
    number_at_type : Option TypeExpr → Judgement
    number_at_type t = number_typing span (written_typing env (option_map type_typed t)) (record { is_negative = (out-Number n).is_negative; value = (out-Number n).value })

    by : (t : Option TypeExpr) → number_node_typing (map_number trees pairs typed (record { ty = t; is_negative = (out-Number n).is_negative; value = (out-Number n).value })) span env
        ≡ number_at_type t
    by None = refl
    by (Some t) = refl

-- ---- patterns

pattern_level : (p : Pattern) → (fold_pattern pairs steps p).1 ≡ (fold_shape pairs steps (out-Pattern p).shape).1 (out-Pattern p).span
pattern_level p =
    ap (λ q. q.1) (fold_out-Pattern pairs.stmt pairs.node pairs.shape pairs.type_node pairs.block pairs.bind pairs.arg pairs.arm pairs.expr pairs.field pairs.loop pairs.number pairs.pattern pairs.type_expr
    steps.stmt steps.node steps.shape steps.type_node steps.block steps.bind steps.arg steps.arm steps.expr steps.field steps.loop steps.number steps.pattern steps.type_expr p)

shape_level : (x : ShapeLevel trees) → (fold_shape pairs steps (roll-Shape x)).1 ≡ shape_typing (map_shape trees pairs typed x)
shape_level x = ap (λ p. p.1) (fold_shape-roll pairs steps x) ∙ ap (λ m. shape_typing (map_shape trees pairs m x)) own

-- a pattern of this shape
pub pattern_at : (p : Pattern) (may_fail : Bool) (x : ShapeLevel trees) → (out-Pattern p).shape ≡ roll-Shape x
    → ◌≡◌ {A = PatternFrom} (shape_typing (map_shape trees pairs typed x) (out-Pattern p).span may_fail) ((pattern_typed p).1 may_fail)
pattern_at p may_fail x is = sym (λ i. (pattern_level p ∙ ap (λ s. (fold_shape pairs steps s).1 (out-Pattern p).span) is ∙ ap (λ k. k (out-Pattern p).span) (shape_level x)) i may_fail)

pub pattern_number : (p : Pattern) (may_fail : Bool) (n : Number) → (out-Pattern p).shape ≡ roll-Shape (Shape-F.Shape::Number n)
    → ◌≡◌ {A = PatternFrom} (number_pattern_at (out-Pattern p).span may_fail n) ((pattern_typed p).1 may_fail)
pattern_number p may_fail n is =
    (λ i env t names locals. let own_of = sym (number_level n (out-Pattern p).span env) i in one_value (out-Pattern p).span may_fail t names locals own_of (is_there own_of.ty))
    ∙ pattern_at p may_fail (Shape-F.Shape::Number n) is
