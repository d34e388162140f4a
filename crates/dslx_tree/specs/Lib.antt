-- the levels of the binary operators
pub mod Levels
-- chains of operators
pub mod Chains
-- operators
pub mod Operators
