-- What the functions of this crate promise to each other alone.
-- mentions of items that are known
pub mod Settled
-- rows of the types of values
pub mod TypedValues
