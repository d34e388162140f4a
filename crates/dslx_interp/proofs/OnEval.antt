-- what functions of a table give
pub mod Calls
-- what is bound before a value is taken apart
pub mod Prefixes
-- each step keeps what the machine comes to
pub mod Keeps
-- values one after another
pub mod Options
-- a step of the machine in the code
pub mod Steps
-- what the recursion finds
pub mod Direct
