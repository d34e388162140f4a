-- instances of procs that are checked
pub mod ReachedProcs
-- what their spawns come to
pub mod Spawned
-- what their `config` is lowered to
pub mod LowersTotally
