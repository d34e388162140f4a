-- what expressions give that have a type
pub mod Given
-- types that the text declares
pub mod Declared
-- global environments in which no item is left out
pub mod Complete
-- values of types
pub mod Kinds
-- the type environment, where it is well typed
pub mod WellTyped
-- what is bound, as constants see it
pub mod InTypeEnv
-- parametrics
pub mod Numbers
