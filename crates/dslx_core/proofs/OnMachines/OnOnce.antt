-- one more instance in a table
pub mod Tables
-- each step of the machine
pub mod Machines
