-- trees beside their typings
pub mod Typed
-- the values of types in the low bits of numbers
pub mod Words
-- what is put behind others
pub mod Ways
-- which values patterns fit
pub mod Fits
-- what a match comes to
pub mod Matched
