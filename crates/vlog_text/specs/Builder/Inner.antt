pub mod Literals
pub mod Tabled
