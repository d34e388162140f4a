-- activations of procs
pub mod Activities
-- items
pub mod Complete
-- what values depend on
pub mod Depends
-- what judgements depend on
pub mod TypingRelations
-- global environments
pub mod GlobalEnv
-- laws
pub mod Laws
-- procs
pub mod Procs
-- expressions
pub mod Sound
-- what has a type has a value of it
pub mod Typed
