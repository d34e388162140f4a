-- one type by all tables
pub mod Alike
-- tables that grow
pub mod Extension
-- the machine
pub mod Machine
-- each instance is in a table once
pub mod Once
-- instances that are needed are made
pub mod Progress
