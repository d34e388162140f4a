-- a proc without sites
pub mod Idle
