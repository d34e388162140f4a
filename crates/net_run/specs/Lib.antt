-- what going round the procs does to a configuration
pub mod Rounds
