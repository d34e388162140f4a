-- what is reached where no proc is mentioned
pub mod Reached
-- global environments that have what is checked
pub mod Knows
-- what instances of procs break and reach, by parts
pub mod Acts
-- parametrics of procs
pub mod Parametrics
-- spawns
pub mod Spawns
-- instances that are checked
pub mod There
-- families of procs
pub mod Families
-- how many procs and channels they have
pub mod Counts
-- the last proc of a text
pub mod LastProc
-- the top proc
pub mod Tops
-- what the `next` of procs becomes
pub mod Nexts
