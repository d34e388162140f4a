-- the types of expressions
pub mod Typing
-- what they say of values
pub mod Sound
-- checked texts all of which have types
pub mod Designs
