-- numbers without a type
pub mod Bare
-- names, constants, and what stands alone
pub mod Parts
-- calls
pub mod OfCalls
-- the induction on trees
pub mod Joined
-- what breaks a rule
pub mod Untyped
-- items that reach themselves
pub mod OfItems
-- procs that reach themselves
pub mod OfProcs
-- texts without faults
pub mod OnText
