-- members by their numbers
pub mod Numbered
