pub mod Keeps
pub mod Kept
pub mod Stands
pub mod Walks
