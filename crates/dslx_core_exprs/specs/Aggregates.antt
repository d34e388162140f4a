-- what functions of this crate promise to one another, and nobody else needs
pub mod Inner
