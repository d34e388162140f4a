-- names
pub mod Names
-- constants
pub mod Values
-- parametric values
pub mod Numbers
-- patterns
pub mod Patterns
