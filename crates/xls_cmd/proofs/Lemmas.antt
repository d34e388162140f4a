-- For other crates' proofs; nothing else of this folder is.
-- what all commands share
pub mod Shared
