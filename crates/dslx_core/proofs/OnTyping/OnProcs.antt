-- members
pub mod Members
-- instances of procs
pub mod Instances
