pub mod Bounds
pub mod Families
