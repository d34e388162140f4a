-- contracts of private parts
pub mod Inner
-- values that were found
pub mod Found
