-- the package of a design, and the command `ir`
pub mod Commands
