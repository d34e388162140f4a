-- threads may read a checked text at the same time
pub mod Shared
