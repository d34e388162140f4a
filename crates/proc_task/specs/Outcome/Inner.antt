-- what the counts of a channel and the ends of procs show
pub mod Counts
