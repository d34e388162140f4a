-- what parts of each sort reach
pub mod Parts
-- calls
pub mod OfCalls
-- the induction on trees
pub mod Joined
-- items, by chains of items
pub mod OfItems
-- instances that reach none but one another
pub mod Closed
-- the least that has some
pub mod Least
