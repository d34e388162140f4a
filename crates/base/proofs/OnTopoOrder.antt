-- each step of the walk
pub mod Steps
-- what is left to do
pub mod Work
-- the steps as the code makes them
pub mod Stepping
-- each step of the walk that gathers groups
pub mod Grouping
-- a group is done
pub mod Closing
-- the steps as the code makes them
pub mod Gathering
-- the numbers of the groups
pub mod Numbering
