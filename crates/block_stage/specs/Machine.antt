-- a proc cut into stages, and what makes its schedule legal
pub mod Pipeline
-- the registers, what stands between them, and what a clock cycle does to them
pub mod Cycle
-- what has gone through the ports since reset
pub mod Since
-- a pipeline that is always fed and whose words are always taken
pub mod Steady
-- what an activation has still to do
pub mod Next
-- a pipeline with another circuit, and the laws of circuits
pub mod Circuits
-- the circuit that the tables of the code make
pub mod Logic
