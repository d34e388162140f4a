-- the items that an item's text mentions, by number
pub mod Reached
