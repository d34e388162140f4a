-- walks one after another
pub mod OnRuns
-- trees beside what they come to
pub mod OnPairs
-- bodies
pub mod OnBodies
-- parametrics of an instance
pub mod OnParametrics
-- words, ends and depths
pub mod OnChannels
-- procs that are spawned
pub mod OnSpawns
-- what a `config` does
pub mod OnConfig
-- results of functions
pub mod OnResults
-- arguments of functions
pub mod OnArguments
-- instances of procs and functions
pub mod OnInstances
