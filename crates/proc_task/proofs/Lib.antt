pub mod Rights
pub mod Ports
pub mod Steps
pub mod Counts
-- what the tasks of a run have come to
pub mod OnOutcome
-- for other crates' proofs
pub mod Lemmas
