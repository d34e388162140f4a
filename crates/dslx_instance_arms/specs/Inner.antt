-- the bounds of loops
pub mod Bounds
