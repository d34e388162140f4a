-- what a table has for a name
pub mod Found
