-- the commands of IR texts, and the files that they name
pub mod Commands
-- what a run is made of
pub mod Ready
