-- The public library, for other crates' proofs; nothing else of this folder is.
-- tables one behind another
pub mod Growing
-- the types of expressions by instances of a table
pub mod OneType
