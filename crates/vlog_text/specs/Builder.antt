-- what a parsed text is made of while it is read
pub mod Parts
-- nothing built, and parts that aren't there
pub mod Empty
-- what each rule makes of the parts of its symbols
pub mod Rules
-- how a module is built from steps and tokens
pub mod Building
-- contracts of this crate's private functions
pub mod Inner
