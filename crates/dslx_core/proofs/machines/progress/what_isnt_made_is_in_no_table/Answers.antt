use Rattle.dslx_core.proofs.Lemmas.Machines.Progress.Stops.{in_no_table, lowered_by_no_table}
use Rattle.dslx_core.proofs.machines.progress.what_isnt_made_is_in_no_table.Goals as goal

pub returns-clause-instance : goal.returns-clause-instance
returns-clause-instance c = in_no_table

pub returns-clause-expression : goal.returns-clause-expression
returns-clause-expression c = lowered_by_no_table
