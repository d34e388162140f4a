-- typings with limits
pub mod Settled
