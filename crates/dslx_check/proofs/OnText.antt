-- names with marks
pub mod OnMarks
-- items by their names
pub mod OnFirsts
-- what reaches what
pub mod OnReaching
-- what is known by names
pub mod OnNames
-- values by what is kept
pub mod OnValues
