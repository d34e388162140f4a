-- the nesting of each token
pub mod Nesting
