-- the types of expressions all of whose parts have types that nodes may have
pub mod NodeTypes
-- what functions give, by their bodies
pub mod Calls
-- what is lowered
pub mod Lowered
