-- items of each kind
pub mod Kinds
