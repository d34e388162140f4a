pub mod ConstMachine
-- names that were bound first, behind others
pub mod FirstNames
