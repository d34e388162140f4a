-- faults and sizes as the code keeps them
pub mod Seen
-- rows of types: which are one
pub mod Rows
-- rows that are one
pub mod RowLaws
-- how large types are
pub mod Measures
-- types as numbers
pub mod Interned
-- how the code comes to them
pub mod Inner
-- what the nodes of DSLX's trees come to, by what their parts come to
pub mod Nodes
-- what control comes to, by what its parts come to
pub mod Control
