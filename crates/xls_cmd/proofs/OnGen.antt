-- words that fit the channels of a network
pub mod Fitting
-- the steps of the command, one after the other
pub mod Steps
-- the levels tell the same
pub mod Levels
