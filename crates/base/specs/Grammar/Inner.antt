pub mod Reading
pub mod Choosing
pub mod Nodes
pub mod Tasks
