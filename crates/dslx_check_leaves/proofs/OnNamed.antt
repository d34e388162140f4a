-- constants
pub mod OnConstants
-- names of types
pub mod OnTypeNames
