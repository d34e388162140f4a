pub mod One
pub mod Packages
