-- parts that have no type
pub mod Found
-- parametrics of instances
pub mod Parametrics
-- arguments in scope
pub mod Arguments
-- bodies and lists of ends
pub mod Bodies
-- what a `config` does
pub mod Config
-- what spawns break and reach
pub mod Spawns
-- instances
pub mod Instances
