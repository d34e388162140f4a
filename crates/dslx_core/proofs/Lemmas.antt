-- For other crates' proofs; nothing else of this folder is.
-- lowering of expressions, statements and procs
pub mod Lowering
-- networks
pub mod Networks
pub mod Machines
pub mod Typing
-- types of checked expressions: what has one has a value of it
pub mod Types
