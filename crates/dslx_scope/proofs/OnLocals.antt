-- what is bound, from the last name on
pub mod Ends
