-- which checked text simulates a text
pub mod CoreOf
-- the value of an expression of a checked text
pub mod CoreValues
-- what a checked text means
pub mod Designs
-- behaviors of procs
pub mod Behaviors
-- lowering of expressions, statements and procs
pub mod Lowering
-- networks
pub mod Networks
-- the machine that makes instances of functions, as a definition, and its laws
pub mod Machines
-- type soundness: what breaks no rule has a type and a value of it, up to whole texts
pub mod Typing
-- types of checked expressions: what has one has a value of it
pub mod Types
