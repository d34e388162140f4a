-- which tokens are whose, and how others are refused
pub mod Reads
-- what tokens do to the nesting
pub mod BracketClasses
-- which texts are which packages, and how others are refused
pub mod Texts
-- where the lines of a text stand
pub mod Spans
