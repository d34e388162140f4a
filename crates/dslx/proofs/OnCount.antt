-- sizes and counts
pub mod OnSizes
-- sizes of instances
pub mod OnCounting
-- sizes that are looked up
pub mod OnLookups
