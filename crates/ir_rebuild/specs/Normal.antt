-- what the table of patterns sees of an operand
pub mod Origins
-- the table of patterns, row by row
pub mod Patterns
-- which nodes are live, which are normal, and the normal form of procs and packages
pub mod Normal
