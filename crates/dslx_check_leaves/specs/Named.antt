-- constants
pub mod Constants
-- names of types
pub mod TypeNames
