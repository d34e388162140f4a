pub mod Delays
pub mod Slots
pub mod Pushes
