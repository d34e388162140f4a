-- the order of faults
pub mod Orders
-- faults, and what is kept of them
pub mod Seen
-- lists of the same faults
pub mod Members
-- sizes, and what is kept of them
pub mod Sizes
-- rows with one more
pub mod Rows
-- the types of numbers, in later tables too
pub mod Types
-- what the nodes of DSLX's trees come to, by what their parts come to
pub mod Nodes
-- what control comes to, by what its parts come to
pub mod Control
