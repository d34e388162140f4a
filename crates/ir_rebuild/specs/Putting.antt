-- the types of nodes, from those of values
pub mod Types
-- operations on values that are words
pub mod Words
-- what a list of nodes promises when nodes are put behind it
pub mod Given
-- what bits say of values
pub mod Tests
