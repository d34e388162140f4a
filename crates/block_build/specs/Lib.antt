-- a pipeline for each proc and a FIFO for each inner channel
pub mod Block
-- what a block does in the rows of a simulation
pub mod Rows
-- a block that is always fed, and whose words are always taken
pub mod Fed
-- netlists of pipelined hardware: lists of wires over ports and registers, and what they carry
pub mod Netlist
