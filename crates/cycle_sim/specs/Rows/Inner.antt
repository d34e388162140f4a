pub mod Known
pub mod Shapes
pub mod Rows
