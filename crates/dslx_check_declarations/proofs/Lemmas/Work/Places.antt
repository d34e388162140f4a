-- Places in tables.
pub use Rattle.dslx_check_declarations.proofs.OnWork.OnPlaces.{by_place, there_here, there_else}
