-- lists of which each pair passes a test
pub mod Pairs
