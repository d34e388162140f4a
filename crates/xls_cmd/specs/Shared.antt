-- the causes of a refusal, each with its status and its line
pub mod Fault
-- steps that give something or a fault, one after the other
pub mod Step
-- answers that may differ in their text alone
pub mod Agrees
-- the steps of loading a file and reading it as a text
pub mod Loads
-- what a call does to the files and the sinks
pub mod Events
-- what a command did, by what is expected
pub mod Done
-- what is put for what a command gave
pub mod Response
-- what the program answers, by what is expected
pub mod Answered
