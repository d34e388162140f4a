-- what the parts of a sample do
pub mod Samples
-- what a sample does, as a proc of a network
pub mod Behaviors
-- the tests of the conditions of a run
pub mod Checks
-- contracts of private functions
pub mod Inner
-- small pipelines that run cycle by cycle, by a logic that is given, and do what the laws of pipelined hardware say
pub mod Blocks
