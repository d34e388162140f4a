-- For other crates' proofs; nothing else of this folder is.
-- one type by all tables
pub mod Alike
-- tables that grow
pub mod Extension
-- the machine
pub mod Machine
-- instances that are needed are made
pub mod Progress
