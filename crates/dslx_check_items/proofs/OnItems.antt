-- The first item of a name, and its number.
pub mod Numbered
