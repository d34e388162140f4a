-- one type by all tables
pub mod OnAlike
-- the machine
pub mod OnMachine
-- each instance stands once
pub mod OnOnce
-- instances that are needed are made
pub mod OnProgress
