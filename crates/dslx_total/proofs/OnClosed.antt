-- instances with which nothing is wrong
pub mod OfItems
-- what is checked
pub mod OfTexts
-- chains
pub mod Chains
-- meanings
pub mod Meanings
-- instances of procs with other values of calls
pub mod Procs
-- what is known of checked items
pub mod Denoted
-- what is known of them in the place of all that is known
pub mod Knowing
-- what they denote
pub mod Settled
