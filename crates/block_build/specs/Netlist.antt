-- wires, and what they carry
pub mod Wires
-- what a list promises when wires are put behind it
pub mod Added
-- numbers that are written out
pub mod Literals
-- wires of one bit
pub mod Gates
-- the wires of a stage's sites
pub mod Handshakes
-- those of several sites
pub mod Sites
-- what they show of the machine
pub mod Walks
-- the wires of a pipeline's stages
pub mod Stages
-- and how they are put one behind another
pub mod Staging
-- the words of receives
pub mod Receives
-- what an activation does by the words on signals
pub mod Turns
-- what an IR proc does by them
pub mod Procs
-- what a verifier asks of wires
pub mod Order
-- which values stages carry on
pub mod Layout
-- the last stages in which values are read
pub mod LastReads
-- the wires of a FIFO
pub mod Fifos
-- the wires of a channel's end
pub mod Ends
-- values on signals
pub mod Leaves
-- the wires of operations on numbers
pub mod Operators
-- what they promise
pub mod Results
-- the wires of choices between values
pub mod Choices
-- where values stand in each stage
pub mod Places
-- what the registers of a pipeline hold next
pub mod Nexts
-- the signals of a proc's nodes
pub mod Nodes
-- those of nodes that are no sites
pub mod Pure
-- those of sites
pub mod Words
-- of the ends of channels
pub mod Requests
-- and of FIFOs
pub mod Buffers
-- what registers hold from cycle to cycle
pub mod Holding
-- registers that are laid out
pub mod Registers
-- and those of a proc's pipeline
pub mod ProcRegisters
-- the netlist of a block
pub mod Blocks
