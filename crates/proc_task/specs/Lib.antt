-- the ends of channels at which a task sends and receives
pub mod Ports
-- a task, and where it stands in its run
pub mod Moving
-- what the tasks of a run have come to
pub mod Outcome
