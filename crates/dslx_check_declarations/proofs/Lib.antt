-- names in lists
pub mod OnNames
-- types of values
pub mod OnValueTypes
-- values of members by their words
pub mod OnDoubles
-- ends that are handed over
pub mod OnEnds
-- what a `config` has made
pub mod OnConfig
-- names that are used
pub mod Using
-- what is written for constants
pub mod OnItems
-- types of structs and enums
pub mod OnTypes
-- members of enums
pub mod OnMembers
-- channels
pub mod OnChannels
-- ends of procs
pub mod OnProcs
-- ends that are handed to spawned procs
pub mod OnSpawns
-- parametrics in scope
pub mod OnScopes
-- values of prefixes
pub mod OnParts
-- tops
pub mod OnTops
-- what crates above take by name
pub mod Lemmas
-- what is known of a text that is checked, as more and more of it is judged
pub mod OnWork
