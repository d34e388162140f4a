-- What trees come to, by what stands at their tops.
use Rattle.std.proofs.Common.{◌≡◌, ◌∙◌, Bool, Option, Some, None, refl, sym, ap, subst}
use Rattle.std.specs.Option.{option_map}
use Rattle.xb_span.specs.declared.span.Span.{Span}
use Rattle.dslx_tree.specs.declared.block.Stmt.TheOpen.{Node-F}
use Rattle.dslx_tree.specs.declared.block.Stmt.TheFolds.{fold_out-Expr, fold_out-TypeExpr}
use Rattle.dslx_tree.specs.declared.expr.Node.{Node, roll-Node}
use Rattle.dslx_tree.specs.declared.expr.Expr.{Expr, out-Expr}
use Rattle.dslx_tree.specs.declared.expr.Number.{Number, out-Number}
use Rattle.dslx_tree.specs.declared.type_expr.TypeNode.{roll-TypeNode}
use Rattle.dslx_tree.specs.declared.type_expr.TypeExpr.{TypeExpr, out-TypeExpr}
use Rattle.dslx_tree.proofs.Lemmas.Folds.Levels.{NodeLevel, TypeNodeLevel, trees, map_node, map_type_node}
use Rattle.dslx_tree.proofs.Lemmas.Folds.Folds.{fold_node, fold_type_node, fold_number, fold_node-roll, fold_type_node-roll}
use Rattle.dslx_meaning.specs.Rules.TypeEnvs.{ExprPair, TypeEnv, Judgement, limited}
use Rattle.dslx_meaning.specs.Rules.NodeRules.{expr_pair, type_pair, node_typing}
use Rattle.dslx_meaning.specs.Rules.TypeRules.{type_expr_typing}
use Rattle.dslx_meaning.specs.Rules.AggregateRules.{number_typing}
use Rattle.dslx_meaning.specs.Rules.ControlRules.{annotation_reached, written_typing}
use Rattle.dslx_meaning.specs.Meaning.{denotation}
use Rattle.dslx_meaning.specs.declared.value.UntypedLiteral.{UntypedLiteral}
use Rattle.dslx_meaning.specs.Rules.ConstantRules.{ConstantSeen, constant_of, constant_or_untyped, untyped_typing}
use Rattle.dslx_check_rules.specs.Nodes.Nodes.Aggregates.{untyped_number, number_of}
use Rattle.dslx_check_rules.specs.declared.typing.Typing.{Typing}
use Rattle.dslx_check_facts.specs.declared.facts.Facts.{Facts}
use Rattle.dslx_check_facts.specs.declared.type_env.TypeEnv.{TypeEnv as CodeEnv}
use Rattle.dslx_check_facts.specs.Walks.{WalkShown}
use Rattle.dslx_check_leaves.specs.Named.Constants.{expr_typed, untyped_found}
use Rattle.dslx_check_leaves.specs.Fits.Typed.{number_at, type_typed}
use Rattle.dslx_check_leaves.proofs.Lemmas.Fits.Levels.{number_level, own, pairs, steps, typed}
use Rattle.dslx_check_leaves.specs.Walked.{WalksTo, TypesPart, TypesOne}
use Rattle.dslx_check_rules.specs.Nodes.Parts.{IsPartIf}
use Rattle.dslx_check_leaves.proofs.Lemmas.Walking.{halved, nothing_reached, same_types}
use Rattle.dslx_check_leaves.specs.Typed.{number_node_at}

-- what an expression comes to, by its node
expr_level : (e : Expr) → (expr_pair e).1 ≡ (fold_node pairs steps (out-Expr e).node).1 (out-Expr e).span
expr_level e =
    ap (λ p. p.1) (fold_out-Expr pairs.stmt pairs.node pairs.shape pairs.type_node pairs.block pairs.bind pairs.arg pairs.arm pairs.expr pairs.field pairs.loop pairs.number pairs.pattern pairs.type_expr
    steps.stmt steps.node steps.shape steps.type_node steps.block steps.bind steps.arg steps.arm steps.expr steps.field steps.loop steps.number steps.pattern steps.type_expr e)

node_level : (x : NodeLevel trees) → (fold_node pairs steps (roll-Node x)).1 ≡ node_typing (map_node trees pairs typed x)
node_level x = ap (λ p. p.1) (fold_node-roll pairs steps x) ∙ ap (λ m. node_typing (map_node trees pairs m x)) own

-- an expression of this node
pub expr_at : (e : Expr) (on_top : Bool) (x : NodeLevel trees) → (out-Expr e).node ≡ roll-Node x
    → ◌≡◌ {A = TypeEnv → Judgement} (λ env. node_typing (map_node trees pairs typed x) (out-Expr e).span on_top env) (λ env. (expr_pair e).1 on_top env)
expr_at e on_top x is = sym (λ i env. (expr_level e ∙ ap (λ n. (fold_node pairs steps n).1 (out-Expr e).span) is ∙ ap (λ k. k (out-Expr e).span) (node_level x)) i on_top env)

type_level : (t : TypeExpr) → (type_pair t).1 ≡ (fold_type_node pairs steps (out-TypeExpr t).node).1 (out-TypeExpr t).span
type_level t =
    ap (λ p. p.1) (fold_out-TypeExpr pairs.stmt pairs.node pairs.shape pairs.type_node pairs.block pairs.bind pairs.arg pairs.arm pairs.expr pairs.field pairs.loop pairs.number pairs.pattern pairs.type_expr
    steps.stmt steps.node steps.shape steps.type_node steps.block steps.bind steps.arg steps.arm steps.expr steps.field steps.loop steps.number steps.pattern steps.type_expr t)

type_node_level : (x : TypeNodeLevel trees) → (fold_type_node pairs steps (roll-TypeNode x)).1 ≡ type_expr_typing (map_type_node trees pairs typed x)
type_node_level x = ap (λ p. p.1) (fold_type_node-roll pairs steps x) ∙ ap (λ m. type_expr_typing (map_type_node trees pairs m x)) own

-- a type of this node
pub type_at : (t : TypeExpr) (x : TypeNodeLevel trees) → (out-TypeExpr t).node ≡ roll-TypeNode x
    → ◌≡◌ {A = TypeEnv → Judgement} (λ env. type_expr_typing (map_type_node trees pairs typed x) (out-TypeExpr t).span env) (λ env. (type_pair t).1 env)
type_at t x is = sym (λ i env. (type_level t ∙ ap (λ n. (fold_type_node pairs steps n).1 (out-TypeExpr t).span) is ∙ ap (λ k. k (out-TypeExpr t).span) (type_node_level x)) i env)

-- an expression that is a number
pub number_expr : (e : Expr) (on_top : Bool) (n : Number) → (out-Expr e).node ≡ roll-Node (Node-F.Node::Number n)
    → ◌≡◌ {A = TypeEnv → Judgement} (λ env. number_node_at (out-Expr e).span n env) (λ env. (expr_pair e).1 on_top env)
number_expr e on_top n is =
    let level : ◌≡◌ {A = TypeEnv → Judgement} (λ env. number_node_at (out-Expr e).span n env) (λ env. limited (out-Expr e).span ((fold_number pairs steps n).1 (out-Expr e).span env)) =
    λ i env. limited (out-Expr e).span (sym (number_level n (out-Expr e).span env) i) in
    level ∙ expr_at e on_top (Node-F.Node::Number n) is

-- a number, by its type
pub number_none : (n : Number) (span : Span) → (out-Number n).ty ≡ None → ◌≡◌ {A = TypeEnv → Judgement} (λ env. untyped_number span) (λ env. number_at span n env)
number_none n span is = λ i env. number_typing span (written_typing env (option_map type_typed (sym is i))) (record { is_negative = (out-Number n).is_negative; value = (out-Number n).value })

pub number_some : (n : Number) (span : Span) (t : TypeExpr) → (out-Number n).ty ≡ Some t
    → ◌≡◌ {A = TypeEnv → Judgement} (λ env. number_of span (record { is_negative = (out-Number n).is_negative; value = (out-Number n).value }) ((type_typed t).1 env)) (λ env. number_at span n env)
number_some n span t is = λ i env. number_typing span (written_typing env (option_map type_typed (sym is i))) (record { is_negative = (out-Number n).is_negative; value = (out-Number n).value })

-- a constant, by whether it is a number without a type
abbrev constant_by : TypeEnv → ExprPair → Option UntypedLiteral → ConstantSeen
constant_by context e None = constant_of context e
constant_by context e (Some number) = record { judgement = untyped_typing; bare = Some number; value = None }

constant_is : (context : TypeEnv) (e : ExprPair) → constant_or_untyped context e ≡ constant_by context e (denotation e.0).bare
constant_is context e = refl

pub constant_none : (e : Expr) → (denotation e).bare ≡ None → ◌≡◌ {A = TypeEnv → ConstantSeen} (λ env. constant_of env (expr_typed e)) (λ env. constant_or_untyped env (expr_typed e))
constant_none e is = λ i env. constant_by env (expr_typed e) (sym is i)

pub constant_some : (e : Expr) (number : UntypedLiteral) → (denotation e).bare ≡ Some number
    → ◌≡◌ {A = TypeEnv → ConstantSeen} (λ env. untyped_found number) (λ env. constant_or_untyped env (expr_typed e))
constant_some e number is = λ i env. constant_by env (expr_typed e) (sym is i)

-- a type that may be written
pub written_none : {f : Facts} {s : CodeEnv} {w : WalkShown} {t : Option TypeExpr} → t ≡ None → WalksTo f s s w w (TypesOne IsPartIf annotation_reached None (λ env. written_typing env (option_map type_typed t)))
written_none {f} {s} {w} {t} is =
    subst (λ (o : Option TypeExpr). WalksTo f s s w w (TypesOne IsPartIf annotation_reached None (λ env. written_typing env (option_map type_typed o)))) (sym is)
    (nothing_reached (TypesOne IsPartIf annotation_reached None (λ env. None)) (same_types w.rows) (λ names later env distinct p. record { part = tt; reaches = refl }))

pub written_some : {f : Facts} {s0 s1 : CodeEnv} {w0 w1 : WalkShown} {j : Typing} {t : Option TypeExpr} {u : TypeExpr} → t ≡ Some u → WalksTo f s0 s1 w0 w1 (TypesPart j (λ env. (type_typed u).1 env))
    → WalksTo f s0 s1 w0 w1 (TypesOne IsPartIf annotation_reached (Some j) (λ env. written_typing env (option_map type_typed t)))
written_some {f} {s0} {s1} {w0} {w1} {j} {t} {u} is g =
    subst (λ (o : Option TypeExpr). WalksTo f s0 s1 w0 w1 (TypesOne IsPartIf annotation_reached (Some j) (λ env. written_typing env (option_map type_typed o)))) (sym is)
    (halved (TypesPart j (λ env. (type_typed u).1 env)) (TypesOne IsPartIf annotation_reached (Some j) (λ env. Some ((type_typed u).1 env))) g (same_types w1.rows)
    (λ names later more env distinct p k. record { part = k.part; reaches = k.reaches }))
