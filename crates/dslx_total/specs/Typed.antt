-- sound types, and scopes whose names have types
pub mod Scopes
-- what it means that a part is lowered to an expression with a type
pub mod Claims
-- instances of functions and of procs
pub mod Functions
