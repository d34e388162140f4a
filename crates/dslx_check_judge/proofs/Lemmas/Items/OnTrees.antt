-- Written types, constants and blocks, by the definitions at the top.
use Rattle.std.proofs.Common.{◌≡◌, sym}
use Rattle.dslx_tree.specs.declared.expr.Expr.{Expr}
use Rattle.dslx_tree.specs.declared.type_expr.TypeExpr.{TypeExpr}
use Rattle.dslx_meaning.specs.Rules.ConstantRules.{constant_of}
use Rattle.dslx_meaning.specs.Rules.ItemRules.{typing_of_inner}
use Rattle.dslx_meaning.specs.Rules.NodeRules.{expr_pair, type_pair, typing_steps}
use Rattle.dslx_meaning.specs.Rules.TypeEnvs.{ExprPair}
use Rattle.dslx_meaning.specs.Rules.TypeRules.{inner_type}
use Rattle.dslx_meaning.specs.Rules.Typings.{TypePair, typing_sorts}
use Rattle.dslx_core.proofs.Lemmas.Typing.Sound.{own_expr, own_type_expr}
use Rattle.dslx_check_rules.specs.declared.typing.Typing.{Typing}
use Rattle.dslx_check_facts.specs.declared.facts.Facts.{Facts}
use Rattle.dslx_check_facts.specs.declared.type_env.TypeEnv.{TypeEnv as CodeEnv}
use Rattle.dslx_check_facts.specs.Walks.{WalkShown}
use Rattle.dslx_check_rules.specs.declared.nodes.parts.ConstantTyping.{ConstantTyping}
use Rattle.dslx_check_leaves.specs.Named.Constants.{expr_typed}
use Rattle.dslx_check_leaves.specs.Fits.Typed.{type_typed}
use Rattle.dslx_check_leaves.specs.Walked.{TypesConstant, TypesPart, WalksTo}
use Rattle.dslx_check_leaves.proofs.Lemmas.Walking.{reconstant, retyped}

-- a tree beside its typing is the tree itself
pub type_is : (t : TypeExpr) → ◌≡◌ {A = TypePair} (type_typed t) (type_pair t)
type_is t = λ i. (sym (own_type_expr typing_sorts typing_steps t) i, (type_pair t).1)

pub expr_is : (e : Expr) → ◌≡◌ {A = ExprPair} (expr_typed e) (expr_pair e)
expr_is e = λ i. (sym (own_expr typing_sorts typing_steps e) i, (expr_pair e).1)

pub inner_walked : {f : Facts} {s0 s1 : CodeEnv} {w0 w1 : WalkShown} {j : Typing} (t : TypeExpr) → WalksTo f s0 s1 w0 w1 (TypesPart j (λ env. inner_type env (type_typed t)))
    → WalksTo f s0 s1 w0 w1 (TypesPart j (λ env. typing_of_inner env t))
inner_walked t g = retyped (λ i env. inner_type env (type_is t i)) g

pub constant_walked : {f : Facts} {s0 s1 : CodeEnv} {w0 w1 : WalkShown} {c : ConstantTyping} (e : Expr) → WalksTo f s0 s1 w0 w1 (TypesConstant c (λ env. constant_of env (expr_typed e)))
    → WalksTo f s0 s1 w0 w1 (TypesConstant c (λ env. constant_of env (expr_pair e)))
constant_walked e g = reconstant (λ i env. constant_of env (expr_is e i)) g
