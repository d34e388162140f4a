-- the queues of a run's channels, and the rights to send and receive there
pub mod Opened
-- the ends of channels of one proc, and the indices of its sites' ends
pub mod Ended
-- the procs of a run by their heads, and the rights that no proc has taken yet
pub mod Started
