-- a step of the machine in the code
mod Taken
-- lists
pub mod OnLists
