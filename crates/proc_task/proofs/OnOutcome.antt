pub mod Over
pub mod Ended
pub mod Found
pub mod Streams
