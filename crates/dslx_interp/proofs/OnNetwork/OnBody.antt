-- the event of a walk is the next one of the proc
pub mod Nexts
-- a walk that goes on, and is kept
pub mod Keeping
-- what each kind of step does to a walk
pub mod Stepping
-- a value is in the low bits of a word
pub mod Low
-- what stands in a list
pub mod There
-- what a body does from its first step on
pub mod Bodies
-- procs by the numbers of their instances
pub mod Numbers
