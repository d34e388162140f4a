-- what the rules of expressions make of the parts of their symbols
pub mod Exprs
-- what the rules of statements, blocks, items and procs make of the parts of their symbols
pub mod Items
