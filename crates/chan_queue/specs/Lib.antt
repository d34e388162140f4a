-- what goes over a channel in a run
pub mod Stream
-- the rule of a channel, and what its passes know
pub mod Channel
-- what a step tells the pass that makes it
pub mod Steps
-- the passes beside the queue
pub mod Passes
-- the streams of a network
pub mod Streams
