use Rattle.dslx_core.proofs.OnMachines.OnAlike.OfTables.{joined}
use Rattle.dslx_core.proofs.machines.alike.tables_are_joined.Goals as goal

pub returns : goal.returns
returns c = joined
