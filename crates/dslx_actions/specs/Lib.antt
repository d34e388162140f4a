-- what rules of several sorts make of the parts of their symbols
pub mod Common
-- nothing built, and parts that aren't there
pub mod Empty
-- what a token adds
pub mod Tokens
-- types
pub mod Types
