-- global environments of some items alone
pub mod Filled
-- items that are in the global environment with all that they need
pub mod Passing
-- texts whose constants and types are well-typed
pub mod WellTypedParts
