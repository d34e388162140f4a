-- What functions of this crate promise to one another.

-- expressions that are names alone
pub mod Names
