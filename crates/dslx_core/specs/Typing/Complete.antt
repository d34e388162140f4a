-- items with whose text nothing is wrong
pub mod HasValue
-- what instances of procs do
pub mod Acts
