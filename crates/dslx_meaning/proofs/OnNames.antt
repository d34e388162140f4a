-- what is bound, from the last name on
pub mod Ends
-- names that are bound around a part of a text
pub mod OnBoundNames
-- a machine for the values of expressions of a text, and that it finds what they mean
pub mod OnConstMachine
