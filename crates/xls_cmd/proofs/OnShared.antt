pub mod Loaded
pub mod Putting
