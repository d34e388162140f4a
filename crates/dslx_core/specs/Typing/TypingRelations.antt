-- what is reached, by what is mentioned
pub mod Reached
-- instances that reach none but one another, and how long chains of items are
pub mod Closed
-- mentions that rule 3 lets pass
pub mod Cycles
-- functions that are mentioned
pub mod Called
-- instances of which all parts are there
pub mod Whole
