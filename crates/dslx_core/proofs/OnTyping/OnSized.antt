-- sizes, types, names, and what stands alone
pub mod Parts
-- constants name no locals
pub mod Locals
-- calls
pub mod OfCalls
-- the induction on trees
pub mod Joined
-- instances of functions
pub mod OfItems
