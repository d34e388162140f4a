-- Lemmas for the crates above.
pub mod Driven
pub mod Standing
-- netlists of pipelined hardware: lists of wires over ports and registers, and what they carry
pub mod Netlist
