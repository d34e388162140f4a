pub mod EachRead
-- types and constants of nodes
pub mod OnNodeTypes
-- for other crates' proofs
pub mod Lemmas
-- the rules and limits of packages
pub mod OnRules
