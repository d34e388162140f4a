-- FIFOs
pub mod Fifo
-- the machine
pub mod Machine
