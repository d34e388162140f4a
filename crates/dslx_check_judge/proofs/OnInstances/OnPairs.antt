-- Trees beside what they come to.
use Rattle.std.proofs.Common.{◌≡◌, ap}
use Rattle.dslx_tree.specs.declared.expr.Expr.{Expr}
use Rattle.dslx_tree.specs.declared.type_expr.TypeExpr.{TypeExpr}
use Rattle.dslx_tree.proofs.Lemmas.Folds.Levels.{Maps, trees}
use Rattle.dslx_meaning.specs.Rules.NodeRules.{expr_pair, type_pair}
use Rattle.dslx_check_leaves.specs.Named.Constants.{expr_typed}
use Rattle.dslx_check_leaves.specs.Fits.Typed.{type_typed}
use Rattle.dslx_check_leaves.proofs.Lemmas.Fits.Levels.{own, pairs}

pub expr_is : (e : Expr) → expr_pair e ≡ expr_typed e
expr_is e = ap (λ (m : Maps trees pairs). m.expr e) own

pub type_is : (t : TypeExpr) → type_pair t ≡ type_typed t
type_is t = ap (λ (m : Maps trees pairs). m.type_expr t) own
