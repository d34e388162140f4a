-- what patterns and numbers mean
pub mod Meanings
-- what written types mean
pub mod Written
-- what is asked of walks
pub mod Asked
-- patterns that are numbers
pub mod Numbers
-- parts of patterns that are tuples
pub mod Tuples
-- patterns by their shapes
pub mod Shapes
-- the parts of a tuple, one after another
pub mod Parts
-- whether some of several is so, or all of them
pub mod Several
-- patterns that fit whatever there is
pub mod Catching
-- each value of a type of few bits
pub mod EachValue
-- the members of enums
pub mod Members
