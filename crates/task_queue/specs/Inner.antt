-- what functions promise to each other: how a queue is made
pub mod Making
-- how two passes share their rights
pub mod Exchange
-- and what a look at several deques leaves
pub mod Looks
