-- what steps do where an item is used
pub mod Items
-- values of items that are kept
pub mod Kept
-- what stands at the top of a tree
pub mod Layers
-- what steps do with several expressions
pub mod Lists
-- what steps do with patterns
pub mod Patterns
-- how steps change where the machine stands
pub mod States
-- what each step does, and several
pub mod Steps
-- what is to be done, and where the machine stands
pub mod Tasks
