pub mod Ends
pub mod Runs
pub mod Opened
pub mod Taken
pub mod Tasks
