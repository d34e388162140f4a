-- For other crates' proofs; nothing else of this folder is.
-- the streams of a network
pub mod Streams
