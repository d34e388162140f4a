-- operands that are numbers
pub mod Numbers
-- the nodes on replacements
pub mod Nodes
-- what the nodes that operands name show
pub mod Views
-- the replacement for each pattern
pub mod Replacements
-- the slice that a slice comes to
pub mod Slices
-- what stands for a node, and what it needs
pub mod Narrowings
-- what narrowing promises of what stands for a node
pub mod Narrowing
-- that what stands for a node has no pattern behind normal nodes
pub mod KeepsNormal
-- what stands for a node once what narrowing answers is appended
pub mod Narrowed
-- what functions of this crate promise to one another, and nobody else needs
pub mod Inner
