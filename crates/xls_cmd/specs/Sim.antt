-- the command `sim`, and the files that it names
pub mod Simulation
