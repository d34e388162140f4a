-- tuples, arrays and structs
pub mod Aggregates
-- calls
pub mod Calls
