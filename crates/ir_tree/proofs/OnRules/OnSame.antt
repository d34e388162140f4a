pub mod Takings
pub mod Openings
pub mod Same
