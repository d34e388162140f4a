-- what a type must be, and what limits count in it
pub mod Types
-- which constants have a type
pub mod Constants
-- what functions of this crate promise to one another, and nobody else needs
pub mod Inner
