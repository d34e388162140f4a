-- types of channels
pub mod Channels
-- `config`
pub mod Configs
-- members of procs
pub mod Members
