-- Contracts of private parts.
-- what each step does
pub mod Machine
-- what operations make of the values on a stack
pub mod Operations
-- what is to be done, without references
pub mod Tasks
-- the value of an expression by those of its parts
pub mod Direct
