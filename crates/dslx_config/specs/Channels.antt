-- types whose bits have widths of words
pub mod Widths
