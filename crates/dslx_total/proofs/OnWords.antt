-- types whose words a channel holds
pub mod Narrow
-- ends of channels
pub mod Ends
