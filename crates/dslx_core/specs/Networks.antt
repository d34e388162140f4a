-- ends by their numbers
pub mod Ends
-- what a `config` is lowered to
pub mod Configs
-- instances of procs
pub mod Procs
-- a checked text that is made of instances
pub mod Assembly
