use Rattle.dslx_total.proofs.OnExpressions.OfTables.{instances_have_table}
use Rattle.dslx_total.proofs.expressions.instances.lower_total_instances.Goals as goal

pub returns : goal.returns
returns c = instances_have_table
