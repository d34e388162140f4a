use Rattle.vlog_tree.proofs.Lemmas.Fitting.{expr_wide}
use Rattle.vlog_tree.proofs.laws.values_fit.Goals as goal

pub returns : goal.returns
returns c = expr_wide
