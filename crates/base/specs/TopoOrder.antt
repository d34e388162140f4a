-- what needs what, and orders by it
pub mod Needs
-- what sorting answers
pub mod Sorted
-- contracts of private parts
pub mod Inner
