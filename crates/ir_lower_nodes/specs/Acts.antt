-- what nodes do at their sites, and when two activities do the same
pub mod Activities
-- what an instance of a checked proc does
pub mod InstanceActivities
