-- from the last name on
pub mod Ends
