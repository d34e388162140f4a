use Rattle.dslx_total.proofs.OnExpressions.OfNext.{block_of_next}
use Rattle.dslx_total.proofs.expressions.nexts.lower_total_next_block.Goals as goal

pub returns : goal.returns
returns c = block_of_next
