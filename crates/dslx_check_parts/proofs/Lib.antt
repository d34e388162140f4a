-- what is between the functions of the walk
pub mod OnParts
-- statements, patterns, matches and calls
pub mod OnWalks
-- how large the parts of trees are
pub mod OnSizes
