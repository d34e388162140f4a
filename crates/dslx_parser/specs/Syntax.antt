-- what the rules of atoms make
pub mod Atoms
-- what the rules of `if`, `match` and `for` make
pub mod Blocks
-- what the rules of modules, functions, constants and named types make
pub mod Items
-- the nodes that the rules make, and their spans
pub mod Nodes
-- what the rules of operators, and of what stands behind an atom, make
pub mod Operators
-- what the rules of procs make
pub mod Procs
-- of which sort, and so of which type, the part of each nonterminal is
pub mod Sorts
-- what the rules of blocks, statements and patterns make
pub mod Statements
-- rules with what they make
pub mod SymbolParts
-- what the trees of the grammar make, and the tree of a text
pub mod Trees
-- what the rules of arguments, numbers and types make
pub mod Types
