-- what a body does
pub mod IrBodies
-- what a receive gives for a word
pub mod Bodies
-- what functions of this crate promise to one another, and nobody else needs
pub mod Inner
-- the same meaning, the same outcomes
pub mod Outcomes
