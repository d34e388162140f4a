-- ends by their numbers
pub mod Ends
-- channels, and parametric arguments of spawns
pub mod Parts
-- families of procs
pub mod Families
-- sites
pub mod Sites
-- tables of instances
pub mod Tables
-- the network
pub mod Networks
