-- For other crates' proofs; nothing else of this folder is.
-- parametric values
pub mod Numbers
