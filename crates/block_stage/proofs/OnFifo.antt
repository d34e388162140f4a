pub mod Lists
pub mod Rows
pub mod Rings
pub mod Slots
