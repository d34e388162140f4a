-- where the walk that finds mentions stands
pub mod Walks
-- what parts mention
pub mod Parts
-- what the walk does at each kind of part
pub mod Levels
-- the items that are mentioned
pub mod Targets
-- the walk without references
pub mod Plain
-- what the walk does at each kind of item
pub mod Definitions
