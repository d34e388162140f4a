-- instances that are in a table
pub mod Found
-- how many instances are checked
pub mod Few
-- instances that a text reaches
pub mod Tables
