-- what an optimised package is to the one that it was made of
pub mod Optimised
-- what the rules make of a node, and how many nodes that takes
pub mod Simplified
-- packages in which only the ids of nodes are others
pub mod Renumbered
-- what the rules say of a node and what stands for it
pub mod Simplifies
-- nodes of which their operands don't show what they give
pub mod Undecided
