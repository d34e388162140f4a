-- what comes of each task
pub mod Found
-- what the parts of a tree mention
pub mod Mentioned
-- what is to be done and where the machine stands, without references
pub mod Plain
-- what each step does
pub mod Steps
-- what is to be done, and where the machine stands
pub mod Tasks
