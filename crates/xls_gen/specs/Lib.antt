-- designs that are made from a seed
pub mod Design
-- the levels of the compiler, and a line of what came out at one
pub mod Level
-- how many events a run makes, and what its outcome tells of their number
pub mod Events
-- modules that are fed with words at one input
pub mod Feed
