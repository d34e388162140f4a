-- items by number
pub mod Items
-- what is mentioned
pub mod Shown
-- which items reach which
pub mod Reaching
-- contracts of private parts
pub mod Inner
