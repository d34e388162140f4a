use Rattle.dslx_total.proofs.OnTyped.OfTables.{tables_are_typed}
use Rattle.dslx_total.proofs.typed.instances.lowered_tables_are_typed.Goals as goal

pub returns : goal.returns
returns c = tables_are_typed
