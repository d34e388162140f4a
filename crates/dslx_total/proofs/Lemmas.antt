-- For other crates' proofs; nothing else of this folder is.
-- `config`
pub mod Configs
-- expressions
pub mod Expressions
-- tables of functions
pub mod Tables
