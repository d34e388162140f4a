-- names with what they stand for
pub mod Bound
-- names that were bound first
pub mod FirstNames
-- what called names stand for
pub mod Called
-- sends and receives
pub mod Sites
-- a machine for the values of expressions of a text, and that it finds what they mean
pub mod ConstMachine
