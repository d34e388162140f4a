pub mod Channels
pub mod Drives
pub mod Moving
pub mod Order
pub mod Rows
pub mod Standing
