-- what instances come to
pub mod Judged
-- what a spawn, or the top, of a proc reaches
pub mod Reached
-- contracts of private parts
pub mod Inner
