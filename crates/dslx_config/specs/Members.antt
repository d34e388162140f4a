-- members with their numbers
pub mod Members
