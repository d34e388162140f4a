-- the turns of a loop
pub mod Turns
