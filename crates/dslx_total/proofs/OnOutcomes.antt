-- procs that do the same from each state of their type
pub mod Alike
-- channels of other names
pub mod Renamed
