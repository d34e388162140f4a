-- a module that is fed with words, and what it gives
pub mod Feeding
-- contracts of private functions
pub mod Inner
