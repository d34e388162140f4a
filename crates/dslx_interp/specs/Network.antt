-- checked texts whose ends are all there
pub mod Linked
-- the limits of a network
pub mod Limits
-- procs of which there can be bodies
pub mod Bodies
-- keeping types is a fact
pub mod KeepsTypes
-- what a body does
pub mod DslxBodies
-- contracts of this crate's private functions
pub mod Inner
