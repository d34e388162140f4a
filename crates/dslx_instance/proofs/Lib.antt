-- the table
pub mod OnTable
