use Rattle.dslx_tree.proofs.OnOperators.Merging.{splits}
use Rattle.dslx_tree.proofs.operators.laws.splits_at_the_last_loosest.Goals as goal

pub returns : goal.returns
returns c = splits
