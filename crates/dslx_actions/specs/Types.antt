-- what the rules of patterns make
pub mod Patterns
-- what the rules of types and patterns do where their symbols are complete
pub mod Rules
-- what the rules of types make
pub mod Types
