-- For other crates' proofs; nothing else of this folder is.
-- FIFOs
pub mod Fifo
-- the machine
pub mod Machine
