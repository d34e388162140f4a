-- measures of types by those of their parts
pub mod Measured
-- rows that are put into a table
pub mod Puts
-- one type is one number
pub mod OneNumber
-- what a table says of a number
pub mod Reads
-- measures of all parts, one after another
pub mod Sums
