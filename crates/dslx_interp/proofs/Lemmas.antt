-- threads may read a checked text, and bodies of its procs, at the same time
pub mod Threads
