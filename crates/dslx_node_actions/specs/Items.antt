-- what the rules of statements and blocks make
pub mod Blocks
-- what the rules of items make
pub mod Declarations
-- what the rules of procs make
pub mod Procs
-- what the rules of statements, blocks, items and procs do where their symbols are complete
pub mod Rules
