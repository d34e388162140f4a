-- lines of a text: their tokens, and their spans
pub mod Lines
-- which tokens are those of which line of a package
pub mod Whole
-- where tokens and lines stand in a text
pub mod Along
