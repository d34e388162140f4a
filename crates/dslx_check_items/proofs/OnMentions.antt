-- parts in turn
pub mod InTurn
-- what stands at the top of a part
pub mod Opened
-- items of a list, from the last one on
pub mod Bounds
-- what the text of an item mentions
pub mod Items
-- names that are bound from the last one on
pub mod Bindings
