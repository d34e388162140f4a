pub mod Stepping
pub mod Tabling
