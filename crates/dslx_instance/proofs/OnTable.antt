-- what a call comes to
pub mod Callees
-- what is found among entries
pub mod Found
