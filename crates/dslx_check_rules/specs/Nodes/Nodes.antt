-- What nodes come to, by what their parts come to: the definitions of dslx_meaning without the trees.
-- operators, casts and slices
pub mod Operators
-- numbers, and what takes values apart
pub mod Aggregates
-- widths and sizes
pub mod Counts
-- written types
pub mod Written
-- what several parts come to together
pub mod Lists
-- tuples and arrays
pub mod Arrays
-- struct values
pub mod Structs
