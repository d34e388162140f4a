-- What functions of this crate promise to one another.

-- parts that a builtin or a match looks at
pub mod Parts
-- how many turns a loop has
pub mod Turns
