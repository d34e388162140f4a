-- For other crates' proofs; nothing else of this folder is.
-- what the tasks of a run have come to
pub mod Outcome
