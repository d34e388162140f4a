-- The public library: what is claimed of two things that may be missing, what is lowered alike, and the instances of a table.
pub use Rattle.dslx_core.proofs.OnMachines.OnAlike.Relation.{Alike, there_too, where_both}
pub use Rattle.dslx_core.proofs.OnMachines.OnAlike.OfCalls.{CallsAlike}
pub use Rattle.dslx_core.proofs.OnMachines.OnAlike.OfOperators.{OneType}
pub use Rattle.dslx_core.proofs.OnMachines.OnAlike.Joined.{expression_alike, block_alike}
pub use Rattle.dslx_core.proofs.OnMachines.OnAlike.OfInstances.{TablesAlike, calls_by_tables, next_alike}
pub use Rattle.dslx_core.proofs.OnMachines.OnAlike.OfTables.{EachIsMade, FoundThere, HasThose, found_has, found_there, has_found, joined, made_table, more_tables_alike, table_made}
