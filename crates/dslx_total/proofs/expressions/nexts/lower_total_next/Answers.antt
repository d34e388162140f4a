use Rattle.dslx_total.proofs.OnExpressions.OfProcs as procs
use Rattle.dslx_total.proofs.expressions.nexts.lower_total_next.Goals as goal

pub returns : goal.returns
returns c = procs.lower_total_next
