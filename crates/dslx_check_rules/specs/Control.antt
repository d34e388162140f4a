-- patterns
pub mod Patterns
-- blocks, `if` and `for`
pub mod Control
-- `match`
pub mod Matches
-- calls
pub mod Calls
-- tokens and effects
pub mod Effects
