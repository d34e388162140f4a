-- tokens one behind the other
pub mod Along
-- the parts of a tree, each with its span, and what stands inside
pub mod Places
