-- receives without a word
pub mod Waits
-- what procs do
pub mod Alike
