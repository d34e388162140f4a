-- Nodes that have parts which are no expressions: what the definitions say at the top is what the walk says of the parts.
use Rattle.std.proofs.Common.{◌≡◌, ◌∙◌, ◌∷◌, List, Bool, Option, Some, None, map, refl, sym, ap}
use Rattle.std.specs.Option.{option_map}
use Rattle.xb_span.specs.declared.span.Span.{Span}
use Rattle.dslx_tree.specs.declared.block.Stmt.TheOpen.{Node-F}
use Rattle.dslx_tree.specs.declared.block.Stmt.TheFolds.{fold_out-For}
use Rattle.dslx_tree.specs.declared.expr.Arm.{Arm}
use Rattle.dslx_tree.specs.declared.expr.Expr.{Expr, out-Expr}
use Rattle.dslx_tree.specs.declared.expr.FieldValue.{FieldValue}
use Rattle.dslx_tree.specs.declared.expr.For.{For, out-For}
use Rattle.dslx_tree.specs.declared.expr.Node.{roll-Node}
use Rattle.dslx_tree.specs.declared.ident.Ident.{Ident}
use Rattle.dslx_tree.specs.declared.type_expr.TypeExpr.{TypeExpr}
use Rattle.dslx_tree.proofs.Lemmas.Folds.Levels.{trees, map_loop}
use Rattle.dslx_tree.proofs.Lemmas.Folds.Folds.{fold_loop}
use Rattle.dslx_meaning.specs.Rules.AggregateRules.{array_typing, struct_typing, typed_array, untyped_array}
use Rattle.dslx_meaning.specs.Rules.ControlRules.{loop_typing, match_typing, written_typing}
use Rattle.dslx_meaning.specs.Rules.TypeEnvs.{Judgement, TypeEnv}
use Rattle.dslx_meaning.specs.Rules.Typings.{ArmSeen, FieldSeen}
use Rattle.dslx_check_leaves.specs.Named.Constants.{expr_typed}
use Rattle.dslx_check_leaves.specs.Fits.Typed.{arm_typed, pattern_typed, type_typed}
use Rattle.dslx_check_leaves.proofs.Lemmas.Fits.Levels.{own, pairs, steps, typed}
use Rattle.dslx_check_leaves.specs.Typed.{block_typed, field_typed, for_at}
use Rattle.dslx_check_leaves.proofs.Lemmas.Levels.{expr_at}
use Rattle.dslx_check_leaves.proofs.Lemmas.Scopes.{arms_are, fields_are}

pub array_none : (span : Span) (o : Option TypeExpr) (es : List Expr) (dots : Bool) → o ≡ None
    → ◌≡◌ {A = TypeEnv → Judgement} (λ env. untyped_array span env (map expr_typed es) dots) (λ env. array_typing span env (written_typing env (option_map type_typed o)) (map expr_typed es) dots)
array_none span o es dots is = λ i env. array_typing span env (written_typing env (option_map type_typed (sym is i))) (map expr_typed es) dots

pub array_some : (span : Span) (o : Option TypeExpr) (t : TypeExpr) (es : List Expr) (dots : Bool) → o ≡ Some t
    → ◌≡◌ {A = TypeEnv → Judgement} (λ env. typed_array span env ((type_typed t).1 env) (map expr_typed es) dots) (λ env. array_typing span env (written_typing env (option_map type_typed o)) (map expr_typed es) dots)
array_some span o t es dots is = λ i env. array_typing span env (written_typing env (option_map type_typed (sym is i))) (map expr_typed es) dots

pub array_top : (e : Expr) (on_top : Bool) (o : Option TypeExpr) (es : List Expr) (dots : Bool) → (out-Expr e).node ≡ roll-Node (Node-F.Node::Array o es dots)
    → ◌≡◌ {A = TypeEnv → Judgement} (λ env. array_typing (out-Expr e).span env (written_typing env (option_map type_typed o)) (map expr_typed es) dots) (λ env. (expr_typed e).1 on_top env)
array_top e on_top None es dots is = expr_at e on_top (Node-F.Node::Array None es dots) is
array_top e on_top (Some t) es dots is = expr_at e on_top (Node-F.Node::Array (Some t) es dots) is

pub match_top : (e : Expr) (on_top : Bool) (v : Expr) (arms : List Arm) → (out-Expr e).node ≡ roll-Node (Node-F.Match v arms)
    → ◌≡◌ {A = TypeEnv → Judgement} (λ env. match_typing (out-Expr e).span env (expr_typed v) (map arm_typed arms)) (λ env. (expr_typed e).1 on_top env)
match_top e on_top v arms is = (λ i env. let trees_of : List ArmSeen = sym (arms_are arms) i in match_typing (out-Expr e).span env (expr_typed v) trees_of) ∙ expr_at e on_top (Node-F.Match v arms) is

pub struct_top : (e : Expr) (on_top : Bool) (name : Ident) (fields : List FieldValue) (others : Option Expr) → (out-Expr e).node ≡ roll-Node (Node-F.Struct name fields others)
    → ◌≡◌ {A = TypeEnv → Judgement} (λ env. struct_typing (out-Expr e).span env name (map field_typed fields) (option_map expr_typed others)) (λ env. (expr_typed e).1 on_top env)
struct_top e on_top name fields None is = (λ i env. let all : List FieldSeen = sym (fields_are fields) i in struct_typing (out-Expr e).span env name all None) ∙ expr_at e on_top (Node-F.Struct name fields None) is
struct_top e on_top name fields (Some o) is = (λ i env. let all : List FieldSeen = sym (fields_are fields) i in struct_typing (out-Expr e).span env name all (Some (expr_typed o))) ∙ expr_at e on_top (Node-F.Struct name fields (Some o)) is

loop_level : (n : For) (span : Span) (env : TypeEnv) → (fold_loop pairs steps n).1 span env ≡ for_at span n env
loop_level n span env =
    ap (λ p. p.1 span env) (fold_out-For pairs.stmt pairs.node pairs.shape pairs.type_node pairs.block pairs.bind pairs.arg pairs.arm pairs.expr pairs.field pairs.loop pairs.number pairs.pattern pairs.type_expr
    steps.stmt steps.node steps.shape steps.type_node steps.block steps.bind steps.arg steps.arm steps.expr steps.field steps.loop steps.number steps.pattern steps.type_expr n)
    ∙ ap (λ m. loop_typing (map_loop trees pairs m (out-For n)) span env) own ∙ by (out-For n).ty
  where
    for_by : Option TypeExpr → Judgement
    for_by t = loop_typing (record {
      index = pattern_typed (out-For n).index;
      accumulator = pattern_typed (out-For n).accumulator;
      ty = option_map type_typed t;
      from = expr_typed (out-For n).from;
      to = expr_typed (out-For n).to;
      body = block_typed (out-For n).body;
      start = expr_typed (out-For n).start;
    }) span env

    by : (t : Option TypeExpr) → loop_typing (map_loop trees pairs typed (record {
      index = (out-For n).index;
      accumulator = (out-For n).accumulator;
      ty = t;
      from = (out-For n).from;
      to = (out-For n).to;
      body = (out-For n).body;
      start = (out-For n).start;
    })) span env ≡ for_by t
    by None = refl
    by (Some t) = refl

pub for_top : (e : Expr) (on_top : Bool) (n : For) → (out-Expr e).node ≡ roll-Node (Node-F.For n)
    → ◌≡◌ {A = TypeEnv → Judgement} (λ env. for_at (out-Expr e).span n env) (λ env. (expr_typed e).1 on_top env)
for_top e on_top n is = (λ i env. sym (loop_level n (out-Expr e).span env) i) ∙ expr_at e on_top (Node-F.For n) is
