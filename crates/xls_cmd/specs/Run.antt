-- the command, and the files that it names
pub mod Commands
-- what a run is made of
pub mod Ready
