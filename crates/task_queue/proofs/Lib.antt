-- lists by their indices, and sums over them
pub mod Lists
pub mod Sums
-- the rule of a deque
pub mod LaneKeeps
-- deques at their owners' ends
pub mod OnSeats
-- the passes of a queue: steps, and how they are made
pub mod OnPasses
pub mod OnMaking
-- a round of workers
pub mod OnRound
