-- the types of values that a type of a text stands for
pub mod Types
-- the values that a text writes
pub mod Constants
-- what each operation gives for its operands
pub mod Operations
-- the value of each node of a proc
pub mod NodeValues
-- what a proc does in an activation, as a proc of a network
pub mod Activations
-- the network of a package
pub mod Networks
-- packages and networks that mean the same
pub mod SameBehavior
-- types and constants of nodes
pub mod NodeTypes
-- the rules and limits of packages
pub mod Rules
