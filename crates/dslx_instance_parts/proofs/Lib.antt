-- the number without a type that an expression is
mod Bare
-- calls in two parts
mod Calls
-- elements that are numbers without a type
mod Elements
-- fields that are written, and those that aren't
mod Written
