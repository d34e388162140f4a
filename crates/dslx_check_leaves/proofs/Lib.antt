-- lemmas for other crates
pub mod Lemmas
-- numbers without types
pub mod Untyped
-- which values patterns fit, and whether a match fits all
pub mod OnFits
-- constants, and names of types
pub mod OnNamed
