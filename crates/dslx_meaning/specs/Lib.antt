-- one activation of a proc
pub mod Activation
-- what a called name stands for
pub mod Callees
-- what names stand for
pub mod Environment
-- which parametrics arguments infer
pub mod Inference
-- the items of a module
pub mod Items
-- lists and names
pub mod Lists
-- the value of an expression
pub mod Meaning
-- the network of a module
pub mod Network
-- what operators, casts, slices and builtins give
pub mod Operators
-- types: equal ones, their sizes
pub mod Types
-- values: their types, equal ones, their flat words
pub mod Values
-- rules
pub mod Rules
-- what names stand for in a text: what is bound in a scope, its items, and what is called
pub mod Names
