-- A tree beside what the rules say of it is the tree.
use Rattle.std.proofs.Common.{◌≡◌}
use Rattle.dslx_tree.specs.declared.expr.Expr.{Expr}
use Rattle.dslx_tree.proofs.Lemmas.Folds.Folds.{Steps, fold_expr}
use Rattle.dslx_tree.proofs.Lemmas.Folds.Levels.{Carriers}
use Rattle.dslx_meaning.specs.Rules.Typings.{typing_sorts}
use Rattle.dslx_meaning.specs.Rules.NodeRules.{typing_steps}
use Rattle.dslx_core.proofs.Lemmas.Typing.Sound.{own_expr, paired, pairing}

-- trees with what the rules say of them
abbrev pub typing : Carriers
typing = paired typing_sorts

abbrev pub expr_typing : Steps typing
expr_typing = pairing typing_sorts typing_steps

pub expr_beside : (e : Expr) → (fold_expr typing expr_typing e).0 ≡ e
expr_beside = own_expr typing_sorts typing_steps
