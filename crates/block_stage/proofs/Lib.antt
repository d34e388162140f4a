-- FIFOs
pub mod OnFifo
-- the machine
pub mod OnMachine
-- for other crates' proofs
pub mod Lemmas
