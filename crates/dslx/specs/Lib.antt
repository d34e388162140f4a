-- what a text gives
pub mod Texts
-- contracts of private parts
pub mod Trees
-- the order in which the instances of an accepted text's procs are made
pub mod Order
-- how many procs and channels the network of an accepted text has, and the limits on both
pub mod Count
