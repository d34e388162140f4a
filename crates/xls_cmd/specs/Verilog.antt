-- the command, and the file that it names
pub mod Commands
