-- the constants that write values
pub mod Constants
-- nodes over literals, and their values
pub mod Folds
-- nodes that are appended, or folded
pub mod Settled
