-- items that are checked
pub mod Checked
-- what is known of them
pub mod Denoted
-- instances that a text reaches, and tables that have them
pub mod Reached
