use Rattle.std.proofs.Common.{length}
use Rattle.dslx_tree.proofs.OnChains.Splitting.{at_most_itself, only_one, ordered}
use Rattle.dslx_tree.proofs.chains.one_ordered_tree.Goals as goal

pub returns-clause-ordered : goal.returns-clause-ordered
returns-clause-ordered c = λ first links. ordered c.splits_at_the_last_loosest.ensures (length links) first links (at_most_itself (length links))

pub returns-clause-only : goal.returns-clause-only
returns-clause-only c = λ first links tree is. only_one c.splits_at_the_last_loosest.ensures is
