-- the table
pub mod Table
-- tasks
pub mod Tasks
