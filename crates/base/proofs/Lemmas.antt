-- For other crates' proofs; nothing else of this folder is.
-- lists
pub mod Lists
-- texts
pub mod Texts
