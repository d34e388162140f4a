-- where the registers of a proc stand
pub mod Registers
-- the signals of its nodes and sites
pub mod Nodes
