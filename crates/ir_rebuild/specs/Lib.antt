-- all operands of a node, and the node of an operand
pub mod Operands
-- nodes whose operands stand elsewhere
pub mod Moves
-- lists of nodes that are built, and what stands for a node in them
pub mod Built
-- which nodes are kept
pub mod Kept
-- nodes that every pass leaves as they are
pub mod Fixed
-- what became of the nodes of a proc, and of the procs of a package
pub mod Walks
-- what functions of this crate promise to one another, and nobody else needs
pub mod Inner
-- the normal form
pub mod Normal
-- putting the nodes of a proc
pub mod Putting
