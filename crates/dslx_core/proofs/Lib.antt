-- behaviors of procs
pub mod OnBehaviors
-- constants have values of their types
pub mod OnConstants
-- lowering of expressions, statements and procs
pub mod OnLowering
-- networks
pub mod OnNetworks
-- for other crates' proofs
pub mod Lemmas
-- the machine that makes instances of functions, as a definition, and its laws
pub mod OnMachines
-- type soundness: what breaks no rule has a type and a value of it, up to whole texts
pub mod OnTyping
-- types of checked expressions: what has one has a value of it
pub mod OnTypes
