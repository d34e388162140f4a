-- what is promised of a checked text that is lowered
pub mod Lowered
-- words that no lowered proc receives
pub mod Deep
-- what functions of this crate promise to one another, and nobody else needs
pub mod Inner
-- the types of checked expressions, of steps and of functions, computed
pub mod Types
