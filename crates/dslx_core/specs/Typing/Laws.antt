-- what environments have in common where a text means the same
pub mod Agreement
-- the least of several faults
pub mod Least
-- what lies below items
pub mod Ranks
-- texts in which recursion ends
pub mod Recursion
