-- For other crates' proofs; nothing else of this folder is.
-- laws of folds over trees
pub mod Folds
