-- calls
pub mod Calls
-- lists
pub mod Lists
