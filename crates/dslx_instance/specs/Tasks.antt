-- what is to be done and the state of the machine, without references
pub mod Shown
-- expressions of one body that are lowered one after another
pub mod Works
