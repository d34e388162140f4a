-- parts that have values of their types where they are well-typed
pub mod Sound
-- environments in which all but locals are bound alike
pub mod Scopes
