-- For other crates' proofs; nothing else of this folder is.
-- what has a type has a value of it
pub mod Typed
