-- For other crates' proofs; nothing else of this folder is.
-- types and constants of nodes
pub mod NodeTypes
-- the rules and limits of packages
pub mod Rules
