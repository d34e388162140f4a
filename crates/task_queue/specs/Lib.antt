-- sums over numbers
pub mod Tasks
-- the deque of a worker
pub mod Lane
-- a deque at its owner's end, and rights on others
pub mod Seats
-- the passes of a queue
pub mod Passes
-- contracts of private functions
pub mod Inner
-- a round of workers over the tasks of a run
pub mod Round
