-- one list is a prefix of another
pub mod Prefix
-- the first offset at which a list leaves a language
pub mod Fault
-- a function of each element and its index
pub mod Indexed
