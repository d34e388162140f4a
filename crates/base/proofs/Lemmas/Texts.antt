-- The public library.
pub mod Hexadecimal
pub mod Lines
