-- the induction
pub mod Joined
-- builtins and calls
pub mod OfCalls
-- instances
pub mod OfInstances
-- tuples and arrays
pub mod OfLists
-- operators
pub mod OfOperators
-- patterns, and what stands behind them
pub mod OfPatterns
-- names and structs
pub mod OfStructs
-- tables of instances
pub mod OfTables
-- what is claimed of two things that may be missing
pub mod Relation
