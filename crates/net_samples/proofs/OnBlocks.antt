pub mod Tables
pub mod Walks
pub mod Steps
pub mod Registers
pub mod Machines
