-- parts beside their trees
pub mod Links
-- judgements by those of their parts
pub mod Same
-- what parts need
pub mod Scopes
-- calls
pub mod OfCalls
-- patterns, matches, statements and loops
pub mod OfControl
-- what parts mention behind other names
pub mod Rebound
-- the induction on trees
pub mod Joined
-- what mentions no proc
pub mod NoProcs
-- parametrics by the values before them
pub mod Parametrics
-- functions that bind the name of a constant
pub mod Bindings
-- items, by chains of items
pub mod OfItems
-- chains that are long enough
pub mod Stages
-- ranks of items
pub mod Ranks
-- what functions declare
pub mod Declared
-- levels, by ranks
pub mod Levels
-- what is seen of the own group
pub mod Groups
