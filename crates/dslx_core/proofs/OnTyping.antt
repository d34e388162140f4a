-- accepted texts
pub mod OnAccepted
-- activations of procs
pub mod OnActivities
-- cycles of items
pub mod OnCycles
-- items
pub mod OnComplete
-- what values depend on
pub mod OnDepends
-- what judgements depend on
pub mod OnTyping
-- what is known of items
pub mod OnGlobals
-- laws
pub mod OnLaws
-- what is known is meant
pub mod OnDenotation
-- procs
pub mod OnProcs
-- what has a size reaches what it mentions
pub mod OnSized
-- expressions
pub mod OnSound
-- what has a type has a value of it
pub mod OnTyped
