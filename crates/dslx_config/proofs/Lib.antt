-- types of channels
pub mod OnChannels
-- `config`
pub mod OnConfigs
-- members of procs
pub mod OnMembers
