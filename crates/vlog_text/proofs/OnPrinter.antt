-- lists that are printed with commas
pub mod Listing
