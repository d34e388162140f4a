-- a walk over needs
pub mod Walk
-- what it has left to do
pub mod Work
-- a walk that gathers what it meets into groups
pub mod Groups
-- what the groups are called
pub mod Numbers
