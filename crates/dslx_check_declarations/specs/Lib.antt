-- names in lists
pub mod Names
-- which rows are types of structs and enums
pub mod Rows
-- types of values
pub mod Types
-- values of members by their words
pub mod Doubles
-- ends of channels
pub mod Ends
-- what a `config` has made
pub mod Config
-- what items come to
pub mod Items
-- ends of procs
pub mod Procs
-- ends that are handed over
pub mod Spawns
-- what comes into scope
pub mod Scopes
-- tops
pub mod Tops
-- what is known of a text that is checked, as more and more of it is judged
pub mod Work
