-- scopes behind names that patterns bind
pub mod Behind
-- what stands at the top of a pattern
pub mod Tops
