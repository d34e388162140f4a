-- tables to which an instance is added
mod Adding
-- what other crates' proofs use
pub mod Lemmas
-- expressions of a body
mod Lowered
-- instances that are needed
pub mod OnNeeded
-- the whole run
pub mod OnRun
