-- the lines of a text, and their positions
pub mod Lines
-- a number in a given count of hexadecimal digits
pub mod Hexadecimal
-- words of letters, digits and `_`
pub mod Words
-- contracts of private functions
pub mod Inner
