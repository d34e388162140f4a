-- the flat word of a value
pub mod Flat
-- the texts that are read, as trees, with their numbers and brackets, and the first byte that no text has
pub mod Form
-- contracts of private functions
pub mod Inner
-- the first part of a text that is no value of its part of a type
pub mod Misfit
-- what a text says at a type
pub mod Reads
-- why a text is refused
pub mod Refusal
-- the numbers and brackets of a value
pub mod Shape
-- the text of a value
pub mod Text
-- which values are of a type
pub mod Typing
-- the value that a flat word holds
pub mod Unflat
-- how wide types are, and how many leaves they have
pub mod Width
