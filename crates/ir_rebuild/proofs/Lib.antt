pub mod Moving
pub mod Walking
pub mod Building
pub mod NodeChecks
pub mod Values
pub mod Standing
pub mod Chains
pub mod Alike
pub mod Reading
pub mod Finishing
pub mod Packages
pub mod Walked
pub mod Keeping
pub mod Lemmas
-- putting the nodes of a proc
pub mod OnPutting
