-- how far the tasks of a run have come
pub mod Tasks
-- the procs at the ends of a channel, by the heads of a network
pub mod Places
-- contracts of private functions
pub mod Inner
