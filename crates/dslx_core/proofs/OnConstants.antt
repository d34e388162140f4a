-- constants and members of enums
pub mod Own
-- what is known of a text
pub mod Wholes
