-- the pipelines of procs that are scheduled, and the block that they are
pub mod Pipelines
