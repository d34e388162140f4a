pub mod Within
pub mod Stopped
pub mod Moves
