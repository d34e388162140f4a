-- what the global environment of a text has
pub mod Text
-- what is known of it so far
pub mod Tables
-- items that are known with all that they mention
pub mod Settling
-- what is learnt
pub mod Learnt
-- global environments that have of each item what its text comes to
pub mod Settled
-- what is judged
pub mod Comes
