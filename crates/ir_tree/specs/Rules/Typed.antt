-- that each node has a value of its type, and what the rules and limits say of a proc of a verified package
pub mod Typed
