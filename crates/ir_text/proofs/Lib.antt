-- the parser
pub mod OnParser
-- what is printed reads back
pub mod OnRoundTrip
-- where the lines of a text stand
pub mod OnSpans
