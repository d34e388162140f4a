-- a node that stays as it is
pub mod Stays
-- what functions of this crate promise to one another, and nobody else needs
pub mod Inner
