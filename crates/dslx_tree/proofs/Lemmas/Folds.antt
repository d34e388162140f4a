-- The public library: folds over the trees of a text, and induction on them.
-- one level of each sort
pub mod Levels
-- the equations of folds
pub mod Folds
-- two folds over one tree
pub mod Related
