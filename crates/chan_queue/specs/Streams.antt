-- the streams of a run's channels, and where a proc stands within the final cut
pub mod Streams
-- a proc that has made its first events of the final cut, and its next one
pub mod Moves
