-- parts of a tuple, one behind the other
pub mod InOrder
-- what a pattern becomes, by what stands at its top
pub mod Opened
-- what it becomes in its scope
pub mod InScope
