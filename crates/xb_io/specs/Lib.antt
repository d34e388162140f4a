-- what files hold
pub mod Contents
-- counts of faults and of bytes taken
pub mod Counts
-- the calls that are to fail
pub mod Failing
-- facts that depend on why a file was not loaded
pub mod LoadError
-- what is printed of that
pub mod LoadErrorText
-- what files in memory hold
pub mod MemFile
-- what a sink has taken
pub mod Sink
