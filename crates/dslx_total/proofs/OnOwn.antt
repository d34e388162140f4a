-- what passes a test
pub mod Passing
-- calls
pub mod OfCalls
-- `if`, blocks, `match` and loops
pub mod OfControl
-- the induction on trees
pub mod Joined
-- the block of `next`
pub mod AtTop
-- declarations and instances
pub mod OfItems
-- texts
pub mod OfTexts
