-- trees beside their typings
pub mod Typed
-- what the functions of a walk promise
pub mod Walked
-- which values patterns fit, and whether a match fits all
pub mod Fits
-- constants, and names of types
pub mod Named
