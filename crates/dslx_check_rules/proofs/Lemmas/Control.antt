-- statements and patterns one behind another, and calls that are refused
pub mod Grouped
