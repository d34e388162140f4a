-- the commands of a design, and the files that they name
pub mod Commands
-- contracts of private parts
pub mod Inner
-- what a run is made of
pub mod Ready
-- what is written of a network and of its runs
pub mod Written
