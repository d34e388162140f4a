pub mod Meant
pub mod Bare
