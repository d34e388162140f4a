-- instances that are reached
pub mod There
-- ends by their names
pub mod Held
-- types, values and depths in a `config`
pub mod Texts
-- channels, children and members
pub mod Configs
-- outer channels
pub mod Outers
