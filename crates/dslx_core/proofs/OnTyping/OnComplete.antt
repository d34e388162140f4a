-- the text of an item as a place
pub mod Scopes
-- constants, aliases and parametrics
pub mod OfConstants
-- structs
pub mod OfStructs
-- enums
pub mod OfEnums
-- instances of functions
pub mod OfInstances
-- types that are declared
pub mod OfTypes
