use Rattle.std.proofs.Common.{length}
use Rattle.dslx_tree.proofs.operators.chain.+merge.Given as goal

abbrev pub decreases-merge : goal.decreases-merge
decreases-merge l = length l.links.items
