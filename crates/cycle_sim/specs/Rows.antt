-- the forms of a line of a row file and of its items
pub mod Forms
-- what an item of a row says
pub mod Said
-- what a row file says of a module's rows, or its first fault
pub mod RowFile
-- contracts of private functions
pub mod Inner
