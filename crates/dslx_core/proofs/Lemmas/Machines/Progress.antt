-- a machine that lacks a step
pub mod Stops
