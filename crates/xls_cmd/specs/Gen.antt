-- what is told of runs: the words that go out on channel `b`
pub mod Told
-- the command
pub mod Commands
-- contracts of private parts
pub mod Inner
-- what the five lines have in common
pub mod Agreed
