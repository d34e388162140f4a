-- what instances start from
pub mod Starts
