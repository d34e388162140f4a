-- What functions of this crate promise to one another.

-- elements of arrays: the type of all, and how many there are
pub mod Elements
