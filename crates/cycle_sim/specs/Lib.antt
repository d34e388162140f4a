-- the text of cycles
pub mod Cycles
-- row files
pub mod Rows
-- the widths under which an operator may be used
pub mod Agree
-- a simulator's signals, and the assignments in the order in which it takes them
pub mod Ordered
-- a simulator, and where it stands
pub mod Sim
-- what it writes in a cycle
pub mod Stored
-- which assignment drives a signal
pub mod Drivers
