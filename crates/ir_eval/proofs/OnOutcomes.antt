pub mod Traces
pub mod Runs
pub mod Positions
pub mod Outcomes
