-- what is looked up in a body
pub mod OnScopes
-- names
pub mod OnNames
-- constants
pub mod OnValues
-- parametric values
pub mod OnParametricArgs
-- patterns
pub mod OnPatterns
-- for other crates' proofs
pub mod Lemmas
