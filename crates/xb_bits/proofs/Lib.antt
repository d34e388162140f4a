pub mod Joins
pub mod Modulus
pub mod BitLemmas
