-- How procs of a checked text stand for those of the text. This module is for other crates' proofs; nothing else of this folder is.
pub use Rattle.dslx_core.proofs.OnNetworks.Families.{AllSimulate, FamilySimulates, CoreSimulates}
pub use Rattle.dslx_core.proofs.OnNetworks.Tables.{LowersTo}
pub use Rattle.dslx_core.proofs.OnNetworks.Networks.{chans_alike, design_ends, design_made, family_simulates, head_alike, networks_alike}
