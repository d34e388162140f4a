-- signatures of functions, as code holds them
pub mod Signatures
-- the types of the words at members
pub mod Words
-- limits on a type's widths
pub mod Limits
-- what is bound behind what was bound before
pub mod Bound
-- expressions that have types
pub mod Typed
