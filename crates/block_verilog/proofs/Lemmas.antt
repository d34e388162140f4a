-- what holds of each element of a list with its index
pub mod Each
-- what stands at the ports of a module in a row
pub mod Outside
-- a module whose wires and registers are a block's
pub mod Rows
-- what registers hold in the next row
pub mod Taken
-- the FIFOs of inner channels
pub mod Fifos
