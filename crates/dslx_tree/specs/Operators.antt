-- the tree of a chain of operators, by their levels
pub mod Levels
