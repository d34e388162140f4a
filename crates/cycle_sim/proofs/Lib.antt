-- the text of cycles
pub mod OnCycles
-- row files
pub mod OnRows
pub mod Settling
pub mod Giving
pub mod Storing
pub mod Cycling
pub mod Ordering
pub mod NewOrder
pub mod RunOrder
pub mod Making
pub mod Showing
pub mod Reading
pub mod Stillness
