-- what is kept of an activation
pub mod Keeps
-- that it is right from the beginning on, and stays so
pub mod Kept
-- how many procs and channels there are
pub mod Counts
-- procs that are still to be elaborated
pub mod Pending
-- what one step of a walk does
pub mod Walking
