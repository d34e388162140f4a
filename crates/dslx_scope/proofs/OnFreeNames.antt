-- each step keeps what comes of the machine
pub mod Keeps
-- names among what is mentioned
pub mod Named
-- what the parts of a tree mention, by what stands at their top
pub mod Opened
-- a step of the machine in the code
pub mod Taken
