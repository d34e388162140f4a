-- types that are written by their width
pub mod Widths
-- values of their own types
pub mod Own
-- lists of instances
pub mod Lists
-- what is known of accepted texts
pub mod Knowing
-- instances by how long chains of items are
pub mod Ordered
