-- each item means what is known of it
pub mod Itself
-- chains that end
pub mod Chained
