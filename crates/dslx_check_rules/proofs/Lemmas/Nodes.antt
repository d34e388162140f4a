-- what is settled
pub mod Settled
-- lists of parts
pub mod Lists
-- parts that may be missing
pub mod Parts
-- tuples and structs by their rows
pub mod Rows
