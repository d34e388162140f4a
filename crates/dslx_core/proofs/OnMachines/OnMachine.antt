-- what the parts of a text become
pub mod LowersTo
-- steps on values that are bound, arms and loops
pub mod OfArms
-- steps on several expressions
pub mod OfParts
-- what a tree becomes, by what stands at its top
pub mod Opened
-- what comes of tasks in a row
pub mod Sequels
