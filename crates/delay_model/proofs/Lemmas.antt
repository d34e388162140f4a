-- For other crates' proofs; nothing else of this folder is.
pub mod Naming
