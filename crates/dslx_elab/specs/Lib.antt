-- what an instance is lowered to, where parts of it are made
pub mod Behind
-- instances that are added to others
pub mod Adding
-- the checked text of instances
pub mod Assembling
-- networks by which texts are run
pub mod Runs
-- orders of instances
pub mod Orders
