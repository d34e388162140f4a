-- types that are declared in two ways
pub mod Declaring
-- all items, with what is filled in
pub mod Filling
-- the same of items that pass
pub mod OnFilled
-- one item more
pub mod Next
-- one function more
pub mod NextFunctions
-- the induction on chains
pub mod Whole
