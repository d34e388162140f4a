-- how high a tree is
pub mod TreeDepths
