pub mod Lies
pub mod Keeps
-- the streams of a network
pub mod OnStreams
-- for other crates' proofs
pub mod Lemmas
