-- one step of each walk
pub mod Steps
-- needs of wires, and which of them depend on themselves
pub mod Looping
-- what is named of all checks
pub mod Judging
-- what is accepted can be simulated
pub mod Running
