pub mod MarkSteps
pub mod Reached
pub mod Appends
