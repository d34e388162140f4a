-- what texts give
mod OnTexts
-- trees that are checked
mod OnTrees
-- names without a slash
mod OnSlashes
-- the order in which the instances of an accepted text's procs are made
pub mod OnOrder
-- lemmas for other crates
pub mod Lemmas
-- how many procs and channels the network of an accepted text has, and the limits on both
pub mod OnCount
