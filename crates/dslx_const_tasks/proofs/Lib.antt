-- one less, where there is one
mod Counts
-- items
pub mod OnItems
-- members of enums
pub mod OnMembers
