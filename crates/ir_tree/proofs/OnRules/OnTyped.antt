pub mod Words
pub mod Operations
pub mod Walks
pub mod Ends
pub mod Packages
