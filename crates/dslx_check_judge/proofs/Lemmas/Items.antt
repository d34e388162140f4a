-- lists whose elements have names
pub mod OnLists
-- written types and constants
pub mod OnTrees
-- what items are called
pub mod OnNames
