-- For other crates' proofs; nothing else of this folder is.
-- accepted texts
pub mod Accepted
-- activations of procs
pub mod Activities
-- items
pub mod Complete
-- denotations
pub mod Denotation
-- what values depend on
pub mod Depends
-- what judgements depend on
pub mod TypingRelations
-- laws
pub mod Laws
-- expressions
pub mod Sound
-- what has a type has a value of it
pub mod Typed
