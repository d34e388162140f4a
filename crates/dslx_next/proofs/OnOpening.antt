-- what comes of one work behind another
pub mod Sequels
-- a step has one type by all tables
pub mod Types
