pub mod Noted
pub mod Walks
pub mod Selectors
-- packages that mean the same
pub mod OnSame
-- what has a type has a value of it
pub mod OnTyped
