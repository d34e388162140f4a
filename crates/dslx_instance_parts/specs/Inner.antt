-- arrays of a type that is written
pub mod Arrays
-- calls of the text's functions
pub mod Calls
-- elements that are numbers without a type
pub mod Elements
-- fields that are written, and those that aren't
pub mod Fields
