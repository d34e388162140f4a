-- what functions of one file show one another
pub mod Inner
-- what comes of all steps
pub mod Runs
