-- tests of all elements of a list, and of some
pub mod Among
-- items by their numbers
pub mod OnItems
-- ways from items to those that they reach
pub mod OnWays
-- values by the low bits of numbers
pub mod OnWords
-- which values patterns fit
pub mod OnFits
-- whether a match is exhaustive
pub mod OnMatches
