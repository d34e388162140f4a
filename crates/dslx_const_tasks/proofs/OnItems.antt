-- sizes are 1 or more
pub mod Sizes
