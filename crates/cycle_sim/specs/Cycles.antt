-- what is written of the cycles of a module
pub mod CycleText
-- what a module does over rows, as a text
pub mod Simulated
-- contracts of private functions
pub mod Inner
