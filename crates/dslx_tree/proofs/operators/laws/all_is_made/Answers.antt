use Rattle.dslx_tree.proofs.OnOperators.Merging.{all-made}
use Rattle.dslx_tree.proofs.operators.laws.all_is_made.Goals as goal

pub returns : goal.returns
returns c = all-made
