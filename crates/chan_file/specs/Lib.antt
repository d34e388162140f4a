-- the words that messages name causes by
pub mod Cause
-- the forms that a line of a channel file may have
pub mod Line
-- what a channel file says of a network's inputs, or its first fault
pub mod ChannelFile
-- what is printed of an outcome
pub mod OutcomeText
-- contracts of private functions
pub mod Inner
